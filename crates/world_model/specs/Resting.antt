-- How clients come to rest by events of their calls: in which order they hold stripes, and how many events they have left at most.
use Rattle.std.specs.Prelude.{ℕ, ◌≡◌, ◌+◌, ◌*◌, ◌-◌, ◌<◌, ◌≤◌, Bool, true, ◌&&◌, cond, List, [], ◌∷◌, length, get_or, Option, Some, None, is_none, if◌then◌else◌}
use Rattle.world_model.specs.declared.event.Event.{Event}
use Rattle.world_model.specs.declared.event.Event.TheVariants as event
use Rattle.world_model.specs.States.{Phase, Serving, Calling, Leaving, Left, Ended, ClientState, State, client, stripe_count, open_call}
use Rattle.world_model.specs.Enabled.{is_number, holds, holds_none, next_stripe, are_none}
use Rattle.world_model.specs.Planning.{ROUNDS}
use Rattle.world_model.specs.Told.{IsTold}
use Rattle.world_model.specs.Turns.{Turns}

-- THE ORDER OF STRIPES

-- There are stripes; a holder is a client that there is; and stripes are taken in rising order: those that a client holds whose call is open
-- and has no pages to fetch are below the one that it takes next.
pub record IsOrderly (state : State) : Type 0 where
  pub some : 1 ≤ stripe_count state
  pub known : (i d : ℕ) → get_or state.holders i None ≡ Some d → d < length state.clients
  pub rising : (c i j : ℕ) → are_none (client state c).due ≡ true → next_stripe state c (open_call (client state c).phase) ≡ Some j
      → holds state.holders c i ≡ true → i < j

-- REST

-- whether a client rests: it has no open call, and holds no stripe
abbrev pub rests : State → ℕ → Bool
rests state c = is_none (open_call (client state c).phase) && holds_none c state.holders

-- the event is of a client's call: a take, a fetch, a commit or a give
abbrev pub IsOfCall : Event → Type 0
IsOfCall (event.Take c i) = Unit {0}
IsOfCall (event.Fetch c) = Unit {0}
IsOfCall (event.Commit c) = Unit {0}
IsOfCall (event.Give c i) = Unit {0}
IsOfCall _ = ⊥

abbrev pub AreOfCalls : List Event → Type 0
AreOfCalls [] = Unit {0}
AreOfCalls (e ∷ events) = IsOfCall e × AreOfCalls events

-- A client rests, and was told all that is due: of its input no whole request is left, but after QUIT or a protocol fault; and where a fault
-- stands in it, its line was written.
pub record IsAtRest (state : State) (c : ℕ) : Type 0 where
  pub no_call : open_call (client state c).phase ≡ None
  pub no_stripe : holds_none c state.holders ≡ true
  pub told : IsTold c state.history true (client state c)

-- These events, which are of calls, lead from one state to another, where each client rests.
pub record Finishes (before : State) (events : List Event) (after : State) : Type 0 where
  pub of_calls : AreOfCalls events
  pub turns : Turns before events after
  pub rest : (c : ℕ) → c < length after.clients → IsAtRest after c

-- HOW MANY EVENTS ARE LEFT

-- how many stripes a client holds
abbrev pub count_held : ℕ → List (Option ℕ) → ℕ
count_held c [] = 0
count_held c (holder ∷ holders) = cond (is_number c holder) 1 0 + count_held c holders

-- the events of a call that takes and gives at most so many stripes, in a round of reading or, with its commit, after it
abbrev pub in_round : (stripes : ℕ) → ℕ
in_round stripes = 2 * stripes + 1

-- What is left of a call whose client holds `held` stripes, where no receipts are due or some: rounds of reading, each of takes, gives and a
-- fetch; then takes, its commit, and gives.
abbrev pub left_of_call : (stripes held : ℕ) → (none : Bool) → (fetched : ℕ) → ℕ
left_of_call stripes held none fetched =
    if none then (ROUNDS - fetched) * in_round stripes + ((stripes - held) + (stripes + 1))
    else ((ROUNDS - fetched) - 1) * in_round stripes + ((held + 1) + in_round stripes)

-- the most of any call
abbrev pub most_of_call : (stripes : ℕ) → ℕ
most_of_call stripes = (ROUNDS + 1) * in_round stripes

-- What is left of a client: for each byte that its session has not taken up a call, since a request has bytes; its open call; one call that
-- forgets, at the end of its session; and the stripes that it is giving back.
abbrev pub left_by : Phase → (stripes held : ℕ) → (none : Bool) → (fetched : ℕ) → ℕ
left_by (Serving at) stripes held none fetched = length at.unread * most_of_call stripes + (in_round stripes + held)
left_by (Calling at call) stripes held none fetched =
    length at.unread * most_of_call stripes + (in_round stripes + left_of_call stripes held none fetched)
left_by (Leaving keys) stripes held none fetched = (stripes - held) + (stripes + 1)
left_by Left stripes held none fetched = held
left_by Ended stripes held none fetched = held

abbrev pub left_of : (stripes held : ℕ) → ClientState → ℕ
left_of stripes held peer = left_by peer.phase stripes held (are_none peer.due) peer.fetched

-- the same of clients, numbered from this number
abbrev pub left_of_all : (stripes : ℕ) → (holders : List (Option ℕ)) → (first : ℕ) → List ClientState → ℕ
left_of_all stripes holders first [] = 0
left_of_all stripes holders first (peer ∷ peers) =
    left_of stripes (count_held first holders) peer + left_of_all stripes holders (first + 1) peers

-- So many events of calls are left at most, where no client is fed more.
unfoldable pub events_left : State → ℕ
events_left state = left_of_all (stripe_count state) state.holders 0 state.clients

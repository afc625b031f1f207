-- A call's plan, which is made when its client takes the last of its stripes.
use Rattle.std.specs.Prelude.{ℕ, ◌≡◌, ◌<◌, true, false, List, [], ◌∷◌, set, Option, Some, None, is_none, nat_lt, if◌then◌else◌}
use Rattle.words.specs.declared.limits.TheConstants.{WEIGHT_MAX}
use Rattle.words.specs.declared.history.Operation.{Operation}
use Rattle.words.specs.declared.reply.Reply.{Reply}
use Rattle.words.specs.declared.reply.Reply.TheVariants.{NullArray}
use Rattle.words.specs.Store.{Write, weight}
use Rattle.words.specs.History.{Pair, outcome, pairs_of, keys_of_pairs, too_much, was_not_done}
use Rattle.words.specs.Session.{Asked, operation_of}
use Rattle.transact.specs.declared.call.Call.{Call}
use Rattle.transact.specs.Calls.{asked_of}
use Rattle.transact.specs.Tables.{any_marked}
use Rattle.world_model.specs.Logs.{place_at}
use Rattle.world_model.specs.States.{Due, ClientState, State, client, log_of, stripe_count, whole, open_call, with_client}
use Rattle.world_model.specs.Enabled.{are_none, holds, next_stripe}
use Rattle.world_model.specs.Advancing.{When}
use Rattle.world_model.specs.Rooms.{StepsAll, IsFull, is_written_in, AreWritten}

-- What an operation of a client is answered: the null array where one of the keys that it goes by is marked as written; else the line of
-- writes that weigh too much, where they do; else what it answers on the store of all stripes.
abbrev pub reply_now : State → ℕ → Operation → Reply
reply_now state c operation =
    let all = outcome (whole state) operation in
    if any_marked state.marks c (keys_of_pairs (pairs_of operation)) then NullArray
    else (if nat_lt WEIGHT_MAX (weight all.1) then too_much else all.0)

-- and what it writes
abbrev pub writes_now : State → ℕ → Operation → List Write
writes_now state c operation = if was_not_done (reply_now state c operation) then [] else (outcome (whole state) operation).1

-- after so many rounds of reading, a plan reads pages itself
abbrev pub ROUNDS : ℕ
ROUNDS = 3

-- these are receipts of pages that are not resident, in stripes that the client holds
abbrev pub AreCold : State → ℕ → List Due → Type 0
AreCold state c [] = Unit {0}
AreCold state c (one ∷ others) =
    ((holds state.holders c one.stripe ≡ true)
    × (number : ℕ) × (number < (log_of state one.stripe).first) × (place_at (log_of state one.stripe) number ≡ Some one.place))
    × AreCold state c others

-- A call is planned, all of whose stripes its client holds, and that is to write this. The plan names receipts to be read, which it may
-- while pages were read for the call less often than that; or it makes room in stripes that are written to, where pages leave their frames and
-- places that wait are released; or after that one of these stripes is full, and it meets that.
pub data Plans (before : State) (c : ℕ) (writes : List Write) : State → Type 0 where
  Names : (due : List Due) → are_none due ≡ false → (client before c).fetched < ROUNDS → AreCold before c due
      → Plans before c writes (with_client before c (record (client before c) { due = due }))
  MakesRoom : (stripes : List ℕ) (after : State) → AreWritten (stripe_count before) writes stripes → StepsAll before stripes after
      → Plans before c writes after
  MeetsFull : (stripes : List ℕ) (mid : State) (i : ℕ) → AreWritten (stripe_count before) writes stripes → StepsAll before stripes mid
      → is_written_in (stripe_count before) writes i ≡ true → IsFull mid i
      → Plans before c writes (with_client mid c (record (client mid c) { full = true }))

-- what a call asks for; one that only forgets asks for nothing, and has no plan
abbrev pub asked_by : Option Call → Option Asked
asked_by None = None
asked_by (Some call) = asked_of call

abbrev pub PlansFor : State → ℕ → List Pair → Option Asked → State → Type 0
PlansFor before c watches None after = after ≡ before
PlansFor before c watches (Some asked) after = Plans before c (writes_now before c (operation_of watches asked)) after

-- a call's first take begins its client's stay, at the present epoch
abbrev pub stay_begun : Option ℕ → (epoch : ℕ) → Option ℕ
stay_begun None epoch = Some epoch
stay_begun (Some x) epoch = Some x

-- a client holds a stripe
abbrev pub taken : State → ℕ → ClientState → (i : ℕ) → State
taken before c peer i = record before {
  holders = set before.holders i (Some c);
  clients = set before.clients c (record peer { stay = stay_begun peer.stay before.epoch });
}

-- A client takes a stripe, and plans its call where that was the last.
abbrev pub Takes : State → ℕ → ClientState → (i : ℕ) → State → Type 0
Takes before c peer i after =
    When (is_none (next_stripe (taken before c peer i) c (open_call peer.phase)))
    (PlansFor (taken before c peer i) c peer.watches (asked_by (open_call peer.phase)) after)
    (after ≡ taken before c peer i)

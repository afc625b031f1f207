-- Which events are enabled.
use Rattle.std.specs.Prelude.{ℕ, Bool, true, false, not, ◌&&◌, ◌||◌, List, [], ◌∷◌, length, get_or, Option, Some, None}
use Rattle.std.specs.Prelude.{is_some, is_none, nat_eq, nat_lt, if◌then◌else◌}
use Rattle.transact.specs.declared.call.Call.{Call}
use Rattle.transact.specs.Submits.{stripes_asked}
use Rattle.world_model.specs.Logs.{Flushing, Nothing, Copied, Wrote, Stamped, place_at, oldest_sealed, is_full}
use Rattle.world_model.specs.States.{Phase, Ended, ClientState, State, client, log_of, stripe_count, open_call}
use Rattle.world_model.specs.Actors.{actor}
use Rattle.world_model.specs.declared.event.Event.{Event}
use Rattle.world_model.specs.declared.event.Event.TheVariants as event

-- WHO HOLDS WHICH STRIPE

-- whether it is this number
abbrev pub is_number : ℕ → Option ℕ → Bool
is_number n None = false
is_number n (Some m) = nat_eq m n

-- whether a client holds a stripe
abbrev pub holds : List (Option ℕ) → (c stripe : ℕ) → Bool
holds holders c stripe = is_number c (get_or holders stripe None)

-- whether a client holds none of these stripes
abbrev pub holds_none : ℕ → List (Option ℕ) → Bool
holds_none c [] = true
holds_none c (holder ∷ holders) = not (is_number c holder) && holds_none c holders

-- whether nobody holds a stripe
abbrev pub is_free : State → ℕ → Bool
is_free state i = is_none (get_or state.holders i None)

-- the first of these stripes that a client does not hold
abbrev pub first_missing : List (Option ℕ) → ℕ → List ℕ → Option ℕ
first_missing holders c [] = None
first_missing holders c (stripe ∷ stripes) = if holds holders c stripe then first_missing holders c stripes else Some stripe

-- the stripe that a client's open call takes next: the least of the stripes of its keys that the client does not hold
abbrev pub next_stripe : State → ℕ → Option Call → Option ℕ
next_stripe state c None = None
next_stripe state c (Some call) = first_missing state.holders c (stripes_asked (stripe_count state) call)

-- A CLIENT'S EVENTS

-- whether a client has ended
abbrev pub has_ended : Phase → Bool
has_ended Ended = true
has_ended _ = false

-- whether a client still hears: its input is not closed, and it has not ended
abbrev pub hears : ClientState → Bool
hears peer = not peer.closed && not (has_ended peer.phase)

-- there are none
abbrev pub are_none : {A : Type 0} → List A → Bool
are_none [] = true
are_none (one ∷ others) = false

-- Whether an event of a client is enabled. A call whose plan named receipts gives its stripes back, then reads the pages, and only then
-- takes stripes again: until then receipts are due.
abbrev pub is_enabled_for : State → ℕ → ClientState → Event → Bool
is_enabled_for state c peer (event.Piece _ bytes) = hears peer
is_enabled_for state c peer (event.Close _) = hears peer
is_enabled_for state c peer (event.Take _ i) =
    is_number i (next_stripe state c (open_call peer.phase)) && (is_free state i && are_none peer.due)
is_enabled_for state c peer (event.Fetch _) = not (are_none peer.due) && holds_none c state.holders
is_enabled_for state c peer (event.Commit _) =
    is_some (open_call peer.phase) && (is_none (next_stripe state c (open_call peer.phase)) && are_none peer.due)
is_enabled_for state c peer (event.Give _ i) = holds state.holders c i && (is_none (open_call peer.phase) || not (are_none peer.due))
is_enabled_for state c peer _ = false

-- A STRIPE'S EVENTS

-- whether the flusher has no page of a stripe
abbrev pub has_none : Flushing → Bool
has_none Nothing = true
has_none (Copied page) = false
has_none (Wrote page place) = false

-- whether it has one that is not written
abbrev pub has_copied : Flushing → Bool
has_copied Nothing = false
has_copied (Copied page) = true
has_copied (Wrote page place) = false

-- whether it has a receipt
abbrev pub has_written : Flushing → Bool
has_written Nothing = false
has_written (Copied page) = false
has_written (Wrote page place) = true

-- whether a stay is past an epoch
abbrev pub is_past : ℕ → Option ℕ → Bool
is_past e None = true
is_past e (Some x) = nat_lt e x

-- whether no client's stay is at an epoch or below it
abbrev pub all_past : List ClientState → ℕ → Bool
all_past [] e = true
all_past (one ∷ clients) e = is_past e one.stay && all_past clients e

-- Whether the oldest of these places may be drained. (Stamps of a stripe rise, so where the oldest may not, none may.)
abbrev pub may_drain : List ClientState → List Stamped → Bool
may_drain clients [] = false
may_drain clients (one ∷ others) = all_past clients one.epoch

-- Whether an event of a stripe is enabled.
abbrev pub is_enabled_in : State → Event → Bool
is_enabled_in state (event.Copy i) =
    nat_lt i (stripe_count state) && (is_free state i && (has_none (log_of state i).flushing
    && (is_some (oldest_sealed state.frames (log_of state i)) && not (is_full state.limit (log_of state i)))))
is_enabled_in state (event.Write i) = nat_lt i (stripe_count state) && has_copied (log_of state i).flushing
is_enabled_in state (event.Install i) = nat_lt i (stripe_count state) && (is_free state i && has_written (log_of state i).flushing)
is_enabled_in state (event.Drop i) =
    nat_lt i (stripe_count state) && (is_free state i && is_some (place_at (log_of state i) (log_of state i).first))
is_enabled_in state (event.Unlink i) =
    nat_lt i (stripe_count state) && (is_free state i && nat_lt (log_of state i).oldest (log_of state i).first)
is_enabled_in state (event.Retire i) = nat_lt i (stripe_count state) && not (are_none (log_of state i).unlinked)
is_enabled_in state (event.Drain i) = nat_lt i (stripe_count state) && may_drain state.clients (log_of state i).retired
is_enabled_in state (event.Release i page) = nat_lt i (stripe_count state) && not (are_none (log_of state i).drained)
is_enabled_in state _ = false

-- ALL EVENTS

-- the same of the client whose event it is, or of the stripe where it is no client's
abbrev pub is_enabled_of : State → Event → Option ℕ → Bool
is_enabled_of state e None = is_enabled_in state e
is_enabled_of state e (Some c) = nat_lt c (length state.clients) && is_enabled_for state c (client state c) e

-- Whether an event is enabled.
abbrev pub is_enabled : State → Event → Bool
is_enabled state e = is_enabled_of state e (actor e)

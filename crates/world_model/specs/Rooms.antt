-- How room is made in stripes, by a call's plan or by the cleaner: pages leave their frames, and places that wait come to their release. A
-- stripe may be full then.
use Rattle.std.specs.Prelude.{ℕ, ◌≡◌, ◌<◌, Bool, true, false, not, ◌&&◌, ◌||◌, List, [], ◌∷◌, length, Option, Some, None, nat_eq, nat_lt}
use Rattle.words.specs.Store.{Bytes, Write}
use Rattle.words.specs.Stripes.{stripe_of}
use Rattle.world_model.specs.Logs.{LogState, Stamped, place_at, first_mutable, is_full, with_receipt, dropped}
use Rattle.world_model.specs.States.{ClientState, State, log_of, stripe_count, with_log, with_log_and_place}
use Rattle.world_model.specs.Enabled.{all_past, are_none, may_drain}
use Rattle.world_model.specs.Releasing.{after_retire, after_drain, after_release}

-- The oldest resident page of a stripe leaves its frame. Where no receipt of it is kept, it is written to a new place first, which may be
-- taken.
abbrev pub Leaves : State → ℕ → Option ℕ → State → Type 0
Leaves before i (Some place) after = after ≡ with_log before i (dropped (log_of before i))
Leaves before i None after =
    (is_full before.limit (log_of before i) ≡ false)
    × (after ≡ with_log_and_place before i (dropped (with_receipt (log_of before i) (log_of before i).first (length before.places))))

-- One step that makes room in a stripe: its oldest resident page, which is read-only, leaves its frame.
pub record Sheds (before : State) (i : ℕ) (after : State) : Type 0 where
  pub within : i < stripe_count before
  pub read_only : nat_lt (log_of before i).first (first_mutable before.frames (log_of before i)) ≡ true
  pub leaves : Leaves before i (place_at (log_of before i) (log_of before i).first) after

-- Or a place of the stripe comes nearer to its release, by a step that is enabled: the oldest unlinked one is retired; the oldest retired one is
-- drained, where no stay is at its epoch or below; or the oldest drained one is released, and may show any page from then on.
pub data Frees (before : State) (i : ℕ) : State → Type 0 where
  Retires : not (are_none (log_of before i).unlinked) ≡ true → Frees before i (after_retire before i)
  Drains : may_drain before.clients (log_of before i).retired ≡ true → Frees before i (after_drain before i)
  Releases : (page : Bytes) → not (are_none (log_of before i).drained) ≡ true → Frees before i (after_release before i page)

pub data Steps (before : State) (i : ℕ) (after : State) : Type 0 where
  ByPage : Sheds before i after → Steps before i after
  ByPlace : i < stripe_count before → Frees before i after → Steps before i after

-- a step in each of these stripes, one after the other
abbrev pub StepsAll : State → List ℕ → State → Type 0
StepsAll before [] after = after ≡ before
StepsAll before (i ∷ more) after = (mid : State) × Steps before i mid × StepsAll mid more after

-- no place can be taken in a stripe
abbrev pub HasNoPlace : State → ℕ → Type 0
HasNoPlace state i = is_full state.limit (log_of state i) ≡ true

-- whether a client's stay is at the epoch of each of these places, or below it
abbrev pub are_held_back : List ClientState → List Stamped → Bool
are_held_back clients [] = true
are_held_back clients (one ∷ others) = not (all_past clients one.epoch) && are_held_back clients others

-- Whether no place of a log can come nearer to its release: none is drained, none unlinked, and each retired one is held back by a stay.
abbrev pub is_spent : List ClientState → LogState → Bool
is_spent clients log = are_none log.drained && (are_none log.unlinked && are_held_back clients log.retired)

-- A stripe is full: a call or the cleaner that needs a place there meets that. None can be taken, and none of those that wait can come nearer
-- to its release.
pub record IsFull (state : State) (i : ℕ) : Type 0 where
  pub no_place : HasNoPlace state i
  pub spent : is_spent state.clients (log_of state i) ≡ true

-- whether one of these writes is to a key of a stripe
abbrev pub is_written_in : (stripes : ℕ) → List Write → (stripe : ℕ) → Bool
is_written_in n [] i = false
is_written_in n (write ∷ writes) i = nat_eq (stripe_of n write.0) i || is_written_in n writes i

-- each of these stripes is written to
abbrev pub AreWritten : (stripes : ℕ) → List Write → List ℕ → Type 0
AreWritten n writes [] = Unit {0}
AreWritten n writes (i ∷ more) = (is_written_in n writes i ≡ true) × AreWritten n writes more

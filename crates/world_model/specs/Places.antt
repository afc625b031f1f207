-- The places of the device, stays and epochs: which places are released when (FASTER, SIGMOD 2018, "Epoch Protection").
use Rattle.std.specs.Prelude.{ℕ, ◌≡◌, ◌+◌, ◌<◌, ◌≤◌, cond, List, [], ◌∷◌, ◌++◌, Option, Some, None, slice_get, nat_eq, nat_le, if◌then◌else◌}
use Rattle.words.specs.Store.{Bytes}
use Rattle.epoch.specs.Clear.{Clear}
use Rattle.world_model.specs.Logs.{Stamped, LogState, places_of, places_kept, place_at}
use Rattle.world_model.specs.States.{Due, State, client, log_at, log_of}

-- P of each
abbrev pub Each : {A : Type 0} → (A → Type 0) → List A → Type 0
Each P [] = Unit {0}
Each P (one ∷ others) = P one × Each P others

-- 1 where it is the place, else 0
abbrev pub hit : (one place : ℕ) → ℕ
hit one place = cond (nat_eq one place) 1 0

-- how often a place is among these
abbrev pub times : ℕ → List ℕ → ℕ
times place [] = 0
times place (one ∷ others) = hit one place + times place others

-- the places that were taken for logs and are not released
abbrev pub all_places : List LogState → List ℕ
all_places [] = []
all_places (log ∷ logs) = places_of log ++ all_places logs

-- how often a place is to be among them: once where it was taken and is not released, and else not
abbrev pub stands : Option (Option Bytes) → ℕ
stands None = 0
stands (Some None) = 1
stands (Some (Some page)) = 0

abbrev pub standing : List (Option Bytes) → ℕ → ℕ
standing places place = stands (slice_get places place)

-- a client's stay, and the receipts that are to be read for it
abbrev pub stay_of : State → ℕ → Option ℕ
stay_of state c = (client state c).stay

abbrev pub due_of : State → ℕ → List Due
due_of state c = (client state c).due

-- a client's stay is at x
abbrev pub IsAt : (ℕ → Option ℕ) → ℕ → Type 0
IsAt stay x = (c : ℕ) × (stay c ≡ Some x)

-- the places among these that were stamped at x or later
abbrev pub stamped_from : ℕ → List Stamped → List ℕ
stamped_from x [] = []
stamped_from x (one ∷ others) = if nat_le x one.epoch then one.place ∷ stamped_from x others else stamped_from x others

-- the places that a client may read whose stay is at x: those whose receipts a log keeps, those unlinked, and those retired at x or later
abbrev pub readable : ℕ → LogState → List ℕ
readable x log = places_kept log.kept ++ (log.unlinked ++ stamped_from x log.retired)

-- a receipt that is to be read belongs to such a place
abbrev pub IsReadable : Option ℕ → LogState → ℕ → Type 0
IsReadable None log place = ⊥
IsReadable (Some x) log place = 1 ≤ times place (readable x log)

-- A log's oldest page is not past its first resident one. Each place that was taken and is not released stands for one thing alone: it is
-- that of one receipt which a log keeps, or which the flusher has, or it is unlinked, retired or drained. Stamps are below the epoch, and
-- no stay is past it. Where a place is drained, its epoch is clear. And a receipt that is to be read for a client belongs to a place that
-- is kept or unlinked, or was retired at the epoch of the client's stay or later.
pub record ArePlaced (logs : List LogState) (places : List (Option Bytes)) (epoch : ℕ) (stay : ℕ → Option ℕ) (due : ℕ → List Due)
    : Type 0 where
  pub live : (i : ℕ) → (log_at logs i).oldest ≤ (log_at logs i).first
  pub once : (place : ℕ) → times place (all_places logs) ≡ standing places place
  pub past : (i : ℕ) → Each (λ (one : Stamped). one.epoch < epoch) (log_at logs i).retired
  pub clear : (i : ℕ) → Each (λ (one : Stamped). Clear epoch one.epoch (IsAt stay)) (log_at logs i).drained
  pub come : (x : ℕ) → IsAt stay x → x ≤ epoch
  pub reads : (c : ℕ) → Each (λ (one : Due). IsReadable (stay c) (log_at logs one.stripe) one.place) (due c)

-- What follows for reads: each receipt that a log keeps, and each that is to be read for a client, is of a place that was taken and is not
-- released. So a read by it gives the page that was written.
pub record NoneReleased (state : State) : Type 0 where
  pub kept : (i number place : ℕ) → place_at (log_of state i) number ≡ Some place → standing state.places place ≡ 1
  pub due : (c : ℕ) → Each (λ (one : Due). standing state.places one.place ≡ 1) (client state c).due

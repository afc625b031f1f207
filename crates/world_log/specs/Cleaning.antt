-- The cleaner's step on one stripe, with the pages that it reads.
use Rattle.std.specs.Prelude.{ℕ, ◌≡◌, ◌<◌, ◌≤◌, Bool, true, false, List, [], ◌∷◌, ◌++◌, Some, None, get_or, slice_get, slice_index_or}
use Rattle.words.specs.Store.{Bytes}
use Rattle.hybrid.specs.HybridLog.{HybridLog, Kept, receipt_of}
use Rattle.hybrid.specs.Reserving.{IsFull}
use Rattle.hybrid.specs.Staging.{StagedPage}
use Rattle.world_model.specs.Commits.{OPENED_MAX}
use Rattle.world_model.specs.Logs.{place_at, with_opened, without_oldest}
use Rattle.world_log.specs.Places.{Shelves}
use Rattle.world_log.specs.Beside.{Beside, log_state}
use Rattle.world_log.specs.MakingRoom.{HasMadeRoom}

-- a receipt that is kept is one of this device, which serves it
pub record IsServedBy (device : Shelves) (kept : Kept) : Type 0 where
  pub shelf : slice_get device.shelves (get_or kept.identity 0 0) ≡ Some (record { page = kept.shown; released = false })
  pub identity : kept.identity ≡ get_or kept.identity 0 0 ∷ 0 ∷ kept.shown

-- and so is each
abbrev pub AreServed : HybridLog → Shelves → Type 0
AreServed p device = (i : ℕ) (kept : Kept) → slice_index_or p.kept i None ≡ Some kept → IsServedBy device kept

-- the page of this number was staged by the receipt that is kept of it
pub record IsFetched (p : HybridLog) (number : ℕ) (old new : List StagedPage) : Type 0 where
  pub kept : Kept
  pub has : receipt_of p number ≡ Some kept
  pub page : Bytes
  pub staged : new ≡ old ++ record { kept = kept; page = page; piece = None } ∷ []

-- the oldest page left the log, so many pages were opened, and its place is unlinked
pub record HasUnlinked (old : HybridLog) (before : Beside) (new : HybridLog) (after : Beside) : Type 0 where
  pub cold : old.oldest < old.resident.oldest
  pub place : ℕ
  pub opened : ℕ
  pub there : place_at (log_state old before) old.oldest ≡ Some place
  pub few : opened ≤ OPENED_MAX
  pub done : log_state new after ≡ without_oldest (with_opened (log_state old before) opened) place

-- What the cleaner's step did: room was made, and then the oldest page left the log; or the stripe is full, and it did not.
abbrev pub DoesUnlink : Bool → HybridLog → Beside → Shelves → HybridLog → Beside → Shelves → Type 0
DoesUnlink true old before device new after later =
    (mid : HybridLog) × HasMadeRoom old device mid later before × HasUnlinked mid before new after
DoesUnlink false old before device new after later = HasMadeRoom old device new later before × IsFull new × (after ≡ before)

-- Receipts that the world's device gave.
use Rattle.std.specs.Prelude.{◌≡◌, ℕ, false, Some, None, slice_get, slice_index_or, get_or, ◌∷◌}
use Rattle.words.specs.Store.{Bytes}
use Rattle.hybrid.specs.HybridLog.{HybridLog, Kept}
use Rattle.world_model.specs.Logs.{place_at}
use Rattle.world_model.specs.Places.{Each, standing}
use Rattle.world_log.specs.Places.{Receipt, Shelf, Shelves, Serves, places_of, with_shelf, with_shown}
use Rattle.world_log.specs.Beside.{Beside, log_state}
use Rattle.world_log.specs.Cleaning.{AreServed}
use Rattle.world_log.specs.declared.queues.Flushing.{Flushing}
use Rattle.world_log.specs.declared.queues.Flushing.TheVariants as has

-- The device gave this receipt: its place was taken, and shows what was written there unless it was released.
pub record IsGiven (device : Shelves) (receipt : Receipt) : Type 0 where
  pub shelf : Shelf
  pub there : slice_get device.shelves receipt.place ≡ Some shelf
  pub shows : shelf.released ≡ false → shelf.page ≡ receipt.page
  pub fresh : receipt.released ≡ false

-- so did it give each receipt that a log keeps
pub record IsGivenKept (device : Shelves) (kept : Kept) : Type 0 where
  pub given : IsGiven device (record { place = get_or kept.identity 0 0; page = kept.shown; released = false })
  pub identity : kept.identity ≡ get_or kept.identity 0 0 ∷ 0 ∷ kept.shown

abbrev pub AreGivenKept : HybridLog → Shelves → Type 0
AreGivenKept p device = (i : ℕ) (kept : Kept) → slice_index_or p.kept i None ≡ Some kept → IsGivenKept device kept

-- no receipt that a log keeps is of a place that was released
abbrev pub NoneKeptReleased : HybridLog → Beside → Shelves → Type 0
NoneKeptReleased p beside device =
    (number place : ℕ) → place_at (log_state p beside) number ≡ Some place → standing (places_of device) place ≡ 1

-- What the device gave, it serves while its place was not released; and it gave what it gave whatever is written and released later.
pub record GivenLaws : Type 0 where
  pub served : (device : Shelves) (receipt : Receipt) → IsGiven device receipt → standing (places_of device) receipt.place ≡ 1 → Serves device receipt
  pub kept : (p : HybridLog) (beside : Beside) (device : Shelves) → AreGivenKept p device → NoneKeptReleased p beside device → AreServed p device
  pub written : (device : Shelves) (receipt : Receipt) (page : Bytes) → IsGiven device receipt → IsGiven (with_shelf device page) receipt
  pub released : (device : Shelves) (receipt : Receipt) (place : ℕ) (page : Bytes) → IsGiven device receipt → IsGiven (with_shown device place page) receipt

-- the device gave the flusher's receipt
abbrev pub IsGivenBy : Shelves → Flushing → Type 0
IsGivenBy device has.Nothing = Unit {0}
IsGivenBy device (has.Copied number page) = Unit {0}
IsGivenBy device (has.Wrote number page receipt) = IsGiven device receipt

-- it gave each receipt of a stripe
pub record AreAllGiven (device : Shelves) (p : HybridLog) (beside : Beside) : Type 0 where
  pub kept : AreGivenKept p device
  pub flushing : IsGivenBy device beside.flushing
  pub unlinked : Each (IsGivenKept device) beside.unlinked
  pub retired : Each (λ (one : Receipt × ℕ). IsGiven device one.0) beside.retired
  pub drained : Each (λ (one : Receipt × ℕ). IsGiven device one.0) beside.drained

-- what one device gave, the other gave
abbrev pub StaysGiven : Shelves → Shelves → Type 0
StaysGiven old new = (receipt : Receipt) → IsGiven old receipt → IsGiven new receipt

-- a step on a stripe leaves it with receipts of the device alone
abbrev pub KeepsGiven : HybridLog → Beside → HybridLog → Beside → Type 0
KeepsGiven old before new after = (device : Shelves) → AreAllGiven device old before → AreAllGiven device new after

-- Pages that leave their frames, one after the other, and what is written to the device for them.
use Rattle.std.specs.Prelude.{◌≡◌, ◌⊎◌, ℕ, zero, suc, ◌+◌, ◌<◌, ◌≤◌, List, None, IsSome}
use Rattle.frames.specs.Resident.{first_mutable, next_number, page_of}
use Rattle.hybrid.specs.declared.stripe.TheConstants.{LAST_PAGE}
use Rattle.hybrid.specs.HybridLog.{HybridLog, Kept, log_of, receipt_of, with_dropped, with_receipt}
use Rattle.hybrid.specs.Reserving.{AreNewServed}

-- `wrote` is the device's: what a write of a page that gave a receipt makes of it. `view` shows a receipt.
module _ {D R : Type 0} (wrote : D → List ℕ → R → D → Type 0) (view : R → Kept) where
  -- the oldest resident page has a receipt: it had one, or it was written, to one place more, which could be taken
  pub record IsFlushedBy (old : HybridLog) (before : D) (new : HybridLog) (after : D) : Type 0 where
    pub how : (IsSome (receipt_of old old.resident.oldest) × (new ≡ old) × (after ≡ before))
        ⊎ ((r : R) × (receipt_of old old.resident.oldest ≡ None) × (old.unreleased < old.places)
        × wrote before (page_of old.resident old.resident.oldest) r after
        × (new ≡ record (with_receipt old old.resident.oldest (view r)) { unreleased = old.unreleased + 1 }))

  -- and it left its frame; it is read-only
  pub record Sheds (old : HybridLog) (before : D) (new : HybridLog) (after : D) : Type 0 where
    pub read_only : old.resident.oldest < first_mutable old.resident
    pub numbers : next_number old.resident ≤ LAST_PAGE
    pub mid : HybridLog
    pub flushed : IsFlushedBy old before mid after
    pub dropped : new ≡ with_dropped mid

  -- so many pages, one after the other
  abbrev pub ShedsAll : ℕ → HybridLog → D → HybridLog → D → Type 0
  ShedsAll zero old before new after = (new ≡ old) × (after ≡ before)
  ShedsAll (suc n) old before new after =
      (mid : HybridLog) × (between : D) × ShedsAll n old before mid between × Sheds mid between new after

  pub record HasShed (old : HybridLog) (before : D) (new : HybridLog) (after : D) : Type 0 where
    pub count : ℕ
    pub all : ShedsAll count old before new after

-- The oldest resident page has left its frame: it had a receipt or was written, to one place more, and then it was dropped. The log stays.
-- `serves` is the device's.
pub record HasLeft {D R : Type 0} (wrote : D → List ℕ → R → D → Type 0) (serves : D → R → Type 0) (view : R → Kept) (honest : Type 0)
    (old : HybridLog) (before : D) (new : HybridLog) (after : D) : Type 0 where
  pub mid : HybridLog
  pub flushed : IsFlushedBy wrote view old before mid after
  pub kept : log_of mid ≡ log_of old
  pub served : honest → AreNewServed serves view old mid after
  pub dropped : new ≡ with_dropped mid
  pub log : log_of new ≡ log_of mid

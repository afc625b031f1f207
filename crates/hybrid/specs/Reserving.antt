-- What a call's own flushes and drops leave.
use Rattle.std.specs.Prelude.{if◌then◌else◌, nat_lt, ◌≡◌, ◌⊎◌, ℕ, ◌+◌, ◌<◌, ◌≤◌, length, drop, Some, None}
use Rattle.hybrid.specs.declared.stripe.TheConstants.{CLEAN_PAGES, LAST_PAGE}
use Rattle.hybrid.specs.declared.stripe.room.Fault.{Fault}
use Rattle.hybrid.specs.declared.stripe.room.Fault.TheVariants as fault
use Rattle.hybrid.specs.declared.stripe.room.Purpose.{Purpose}
use Rattle.hybrid.specs.declared.stripe.room.Purpose.TheVariants as purpose
use Rattle.frames.specs.Resident.{first_mutable, next_number}
use Rattle.hybrid.specs.HybridLog.{HybridLog, Kept, available, count_kept, expected, pages_for, receipt_of, with_receipt}

abbrev pub MatchFault : Fault → Type 0 → Type 0 → Type 0
MatchFault fault.DeviceFault P Q = P
MatchFault fault.StoreFull P Q = Q

-- no place may be taken on the device, or no page may be opened: the tail page is the last
abbrev pub IsFull : HybridLog → Type 0
IsFull p = (p.unreleased ≡ p.places) ⊎ (LAST_PAGE < next_number p.resident)

-- the oldest resident page has a receipt: it had one, or it was written to one place more
pub record IsFlushed (old new : HybridLog) : Type 0 where
  pub how : (new ≡ old) ⊎ ((k : Kept) × (receipt_of old old.resident.oldest ≡ None) × (new ≡ record (with_receipt old old.resident.oldest k) { unreleased = old.unreleased + 1 }))

-- this many pages have left their frames, oldest first; each that had no receipt was written to one place more
pub record IsReserved (old new : HybridLog) (count : ℕ) : Type 0 where
  pub oldest : new.oldest ≡ old.oldest
  pub resident : new.resident ≡ record { oldest = old.resident.oldest + count; pages = drop count old.resident.pages; frames = old.resident.frames }
  pub heads : new.heads ≡ old.heads
  pub stripes : new.stripes ≡ old.stripes
  pub places : new.places ≡ old.places
  pub size : length new.kept ≡ length old.kept
  pub still : (number : ℕ) (k : Kept) → receipt_of old number ≡ Some k → receipt_of new number ≡ Some k
  pub others : (number : ℕ) → new.resident.oldest ≤ number → receipt_of new number ≡ receipt_of old number
  pub counted : new.unreleased + count_kept old.kept ≡ old.unreleased + count_kept new.kept

-- the frames that are left near the limit of places, by the purpose: beside a page that can be opened, and where the tail page has room
abbrev pub beside : Purpose → ℕ
beside purpose.Clean = 0
beside purpose.Delete = CLEAN_PAGES
beside purpose.Write = CLEAN_PAGES + 1

abbrev pub spare : Purpose → ℕ
spare purpose.Clean = 0
spare purpose.Delete = 0
spare purpose.Write = CLEAN_PAGES + 1

-- The frames that have to be free for writes of this weight. Where they can open a page: one for each that they can open and, where fewer are
-- available than these and those that are left beside them, also those. Else none and, where fewer are expected than are left, those.
abbrev pub frames_for : HybridLog → (weight : ℕ) → Purpose → ℕ
frames_for p weight purpose =
    if nat_lt 0 (pages_for p weight)
    then (if nat_lt (available p) (pages_for p weight + beside purpose) then pages_for p weight + beside purpose else pages_for p weight)
    else (if nat_lt (expected p) (spare purpose) then spare purpose else 0)

-- so many pages may be opened, and so many frames stay available beside them; or no page is left that may leave its frame
abbrev pub KeepsBack : HybridLog → (pages left : ℕ) → Type 0
KeepsBack p pages left = (pages + left ≤ available p) ⊎ (first_mutable p.resident ≤ p.resident.oldest)

-- so many frames are expected; or no page is left that may leave its frame
abbrev pub KeepsSpare : HybridLog → (left : ℕ) → Type 0
KeepsSpare p left = (left ≤ expected p) ⊎ (first_mutable p.resident ≤ p.resident.oldest)

-- `serves` is the device's, and `view` shows a receipt.
module _ {D R : Type 0} (serves : D → R → Type 0) (view : R → Kept) where
  -- the device serves each receipt that is kept
  abbrev pub AreServed : HybridLog → D → Type 0
  AreServed p device = (number : ℕ) (r : R) → receipt_of p number ≡ Some (view r) → serves device r

  -- the device serves each receipt that is kept now and was not
  abbrev pub AreNewServed : HybridLog → HybridLog → D → Type 0
  AreNewServed old new device =
      (number : ℕ) (r : R) → receipt_of new number ≡ Some (view r) → (receipt_of old number ≡ Some (view r)) ⊎ serves device r

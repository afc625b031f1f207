-- Room for a call's writes, stripe by stripe, and what its writes make of the logs.
use Rattle.std.specs.Prelude.{ℕ, zero, suc, ◌≡◌, ◌≢◌, ◌⊎◌, ◌+◌, ◌-◌, ◌<◌, ◌≤◌, List, [], ◌∷◌, Option, None, Some, nat_eq, if◌then◌else◌}
use Rattle.std.specs.Option.{is_some}
use Rattle.words.specs.declared.limits.TheConstants.{WEIGHT_MAX}
use Rattle.words.specs.Store.{Write, writes_key, weight}
use Rattle.words.specs.Stripes.{stripe_of}
use Rattle.frames.specs.Resident.{next_number}
use Rattle.hybrid.specs.declared.stripe.TheConstants.{LAST_PAGE}
use Rattle.hybrid.specs.HybridLog.{HybridLog, HasRoom, IsGrown, Kept, expected, free, pages_for, receipt_of}
use Rattle.hybrid.specs.declared.stripe.room.Purpose.{Purpose}
use Rattle.hybrid.specs.declared.stripe.room.Purpose.TheVariants as purpose
use Rattle.hybrid.specs.Reserving.{IsFull, IsReserved, KeepsBack, KeepsSpare, beside, frames_for, spare}
use Rattle.hybrid.specs.Shedding.{HasShed}
use Rattle.shards.specs.Shards.{weigh}

-- what the first of writes weighs at a stripe: nothing where a later one is to its key
abbrev pub share_of_first : (n i : ℕ) → Write → List Write → ℕ
share_of_first n i write writes = if nat_eq (stripe_of n write.0) i then (if writes_key writes write.0 then 0 else weigh write) else 0

-- What the writes to one stripe weigh, of so many: each key once, by its last new value.
abbrev pub share : (n i : ℕ) → List Write → ℕ
share n i [] = 0
share n i (write ∷ writes) = share_of_first n i write writes + share n i writes

-- there is the log of a stripe, and it has room for writes of this weight
pub record IsRoomyAt (logs : ℕ → Option HybridLog) (stripe weight : ℕ) : Type 0 where
  pub log : HybridLog
  pub there : logs stripe ≡ Some log
  pub room : HasRoom log weight

-- there is the log of a stripe, and it has no place left on the device
pub record IsFullAt (logs : ℕ → Option HybridLog) (stripe : ℕ) : Type 0 where
  pub log : HybridLog
  pub there : logs stripe ≡ Some log
  pub full : IsFull log

-- the log of a stripe has grown by writes of this weight, and no other log changed
pub record GrowsAt (stripe weight : ℕ) (before later : ℕ → Option HybridLog) : Type 0 where
  pub old : HybridLog
  pub was : before stripe ≡ Some old
  pub new : HybridLog
  pub is : later stripe ≡ Some new
  pub grown : IsGrown old new weight
  pub others : (other : ℕ) → other ≢ stripe → later other ≡ before other

-- For what room is made: deletions alone, or writes of which one at least gives a value.
abbrev pub purpose_of : List Write → Purpose
purpose_of [] = purpose.Delete
purpose_of (write ∷ writes) = if is_some write.1 then purpose.Write else purpose_of writes

-- pages of the log have left their frames, no more than writes of this weight want for this purpose
pub record ShedsFew (weight : ℕ) (purpose : Purpose) (old new : HybridLog) : Type 0 where
  pub count : ℕ
  pub reserved : IsReserved old new count
  pub few : count ≤ frames_for old weight purpose - free old

-- There may be no room for writes of this weight, for this purpose: they may open a page, or fewer frames are expected than they leave; too few
-- frames are free for that, and no page may leave its frame, or be opened.
pub record LacksRoom (weight : ℕ) (purpose : Purpose) (old new : HybridLog) : Type 0 where
  pub wanted : (0 < pages_for old weight) ⊎ (expected old < spare purpose)
  pub lacks : (LAST_PAGE < next_number new.resident) ⊎ ((receipt_of new new.resident.oldest ≡ None) × (free new < frames_for old weight purpose))

-- There is no room for writes of this weight, though they may take all frames: they can open a page, and no page may be opened, or fewer frames are
-- free than pages that they can open, and no page may leave its frame.
pub record HasNoRoom (p : HybridLog) (weight : ℕ) : Type 0 where
  pub opens : 0 < pages_for p weight
  pub lacks : (LAST_PAGE < next_number p.resident) ⊎ ((receipt_of p p.resident.oldest ≡ None) × (free p < pages_for p weight))

-- The frames of the purpose are left: beside the pages that writes of this weight can open, or where they fit into the tail page.
pub record LeavesFrames (weight : ℕ) (purpose : Purpose) (old new : HybridLog) : Type 0 where
  pub opening : 0 < pages_for old weight → KeepsBack new (pages_for old weight) (beside purpose)
  pub fitting : pages_for old weight ≡ 0 → KeepsSpare new (spare purpose)

-- the same of the log of a stripe
abbrev pub ShedsFewAt : (stripe weight : ℕ) → Purpose → (before later : ℕ → Option HybridLog) → Type 0
ShedsFewAt stripe weight purpose before later = (old new : HybridLog) → before stripe ≡ Some old → later stripe ≡ Some new → ShedsFew weight purpose old new

abbrev pub LacksRoomAt : (stripe weight : ℕ) → Purpose → (before later : ℕ → Option HybridLog) → Type 0
LacksRoomAt stripe weight purpose before later = (old new : HybridLog) → before stripe ≡ Some old → later stripe ≡ Some new → LacksRoom weight purpose old new

abbrev pub LeavesFramesAt : (stripe weight : ℕ) → Purpose → (before later : ℕ → Option HybridLog) → Type 0
LeavesFramesAt stripe weight purpose before later = (old new : HybridLog) → before stripe ≡ Some old → later stripe ≡ Some new → LeavesFrames weight purpose old new

-- each stripe has room for its share of the writes, if it has one
abbrev pub AreRoomy : ℕ → (ℕ → Option HybridLog) → List Write → Type 0
AreRoomy n logs writes = (i : ℕ) → 0 < share n i writes → IsRoomyAt logs i (share n i writes)

-- each log has grown by its share of the writes; one that has none is as it was
pub record HaveGrown (n : ℕ) (writes : List Write) (before later : ℕ → Option HybridLog) : Type 0 where
  pub was : (i : ℕ) (new : HybridLog) → later i ≡ Some new → (old : HybridLog) × (before i ≡ Some old) × IsGrown old new (share n i writes)
  pub unwritten : (i : ℕ) → share n i writes ≡ 0 → later i ≡ before i

-- of each log no more pages have left their frames than its share of the writes wants
abbrev pub ShedFew : ℕ → List Write → (before later : ℕ → Option HybridLog) → Type 0
ShedFew n writes before later = (i : ℕ) → ShedsFewAt i (share n i writes) (purpose_of writes) before later

-- each log that has a share of the writes has the frames that they leave
abbrev pub LeaveFrames : ℕ → List Write → (before later : ℕ → Option HybridLog) → Type 0
LeaveFrames n writes before later = (i : ℕ) → 0 < share n i writes → LeavesFramesAt i (share n i writes) (purpose_of writes) before later

-- `wrote` is the device's: what a write of a page that gave a receipt makes of it. `view` shows a receipt.
module _ {D R : Type 0} (wrote : D → List ℕ → R → D → Type 0) (view : R → Kept) where
  -- pages of one log left their frames, and no other log changed
  pub record ShedsAt (stripe : ℕ) (old : ℕ → Option HybridLog) (before : D) (new : ℕ → Option HybridLog) (after : D) : Type 0 where
    pub was : HybridLog
    pub there : old stripe ≡ Some was
    pub is : HybridLog
    pub left : new stripe ≡ Some is
    pub shed : HasShed wrote view was before is after
    pub others : (other : ℕ) → other ≢ stripe → new other ≡ old other

  -- the same of a stripe that these writes write; where they do not, nothing changed
  abbrev pub RoomAt : (n stripe : ℕ) → List Write → (old : ℕ → Option HybridLog) → (before : D) → (new : ℕ → Option HybridLog) → (after : D) → Type 0
  RoomAt n stripe writes old before new after =
      ((share n stripe writes ≡ 0) × ((i : ℕ) → new i ≡ old i) × (after ≡ before)) ⊎ ((0 < share n stripe writes) × ShedsAt stripe old before new after)

  -- pages left their frames to make room for writes, at so many stripes, in rising order
  abbrev pub MakesRoom : (n count : ℕ) → List Write → (old : ℕ → Option HybridLog) → (before : D) → (new : ℕ → Option HybridLog) → (after : D) → Type 0
  MakesRoom n zero writes old before new after = ((i : ℕ) → new i ≡ old i) × (after ≡ before)
  MakesRoom n (suc stripe) writes old before new after =
      (mid : ℕ → Option HybridLog) × (between : D) × MakesRoom n stripe writes old before mid between × RoomAt n stripe writes mid between new after

  -- A stripe was met that is full, where room was made for writes, which are due: it is one that they write.
  pub record MeetsFull (n stripe : ℕ) (Due : List Write → Type 0) (old : ℕ → Option HybridLog) (before : D) (new : ℕ → Option HybridLog) (after : D) : Type 0 where
    pub writes : List Write
    pub due : Due writes
    pub light : weight writes ≤ WEIGHT_MAX
    pub written : 0 < share n stripe writes
    pub below : stripe < n
    pub made : MakesRoom n (suc stripe) writes old before new after
    pub full : IsFullAt new stripe
    pub few : ShedFew n writes old new
    pub lacks : LacksRoomAt stripe (share n stripe writes) (purpose_of writes) old new

-- A log, with what becomes of its places on the device.
use Rattle.std.specs.Prelude.{ℕ, ◌≡◌, ◌≢◌, ◌⊎◌, ◌+◌, ◌-◌, ◌<◌, Bool, List, [], ◌∷◌, ◌++◌, length, map, if◌then◌else◌, nat_lt, Some}
use Rattle.std.specs.List.{Contains}
use Rattle.frames.specs.Resident.{page_of}
use Rattle.gates.specs.Pages.{Place}
use Rattle.hybrid.specs.HybridLog.{HybridLog, IsSealed, Kept, count_kept, receipt_of, with_receipt}
use Rattle.hybrid.specs.Staging.{IsUnlinked}
use Rattle.shards.specs.declared.counted.Begun.{Begun}
use Rattle.shards.specs.declared.counted.Begun.TheVariants as begun
use Rattle.shards.specs.declared.counted.Cleaning.{Cleaning}
use Rattle.shards.specs.declared.counted.Cleaning.TheVariants as cleaning
use Rattle.shards.specs.declared.counted.Moved.{Moved}
use Rattle.shards.specs.declared.counted.Moved.TheVariants as moved

pub record Counted : Type 0 where
  pub log : HybridLog
  -- how many places are counted whose receipts somebody else has: pages that are being written, receipts that were taken out
  pub in_flight : ℕ
  -- the receipts of pages that are not in the log, of those the retired ones, and the drained ones: the oldest first
  pub unlinked : List Kept
  pub retired : List Kept
  pub drained : List Kept
  -- the places of the retired ones, each with how often a word that was read blocked its drain
  pub refused : List (Place × ℕ)
  -- whether a retirement was refused: the epoch word was read as worn out, which it stays
  pub worn : Bool

-- Each place that was taken and not released is that of a receipt which the log keeps, of one that somebody else has, or of a page that is
-- not in the log.
abbrev pub IsCounted : Counted → Type 0
IsCounted c = count_kept c.log.kept + c.in_flight + length c.unlinked + length c.retired + length c.drained ≡ c.log.unreleased

-- what stands beside a log
pub record Waiting : Type 0 where
  pub in_flight : ℕ
  pub unlinked : List Kept
  pub retired : List Kept
  pub drained : List Kept
  pub refused : List (Place × ℕ)
  pub worn : Bool

abbrev pub waiting_of : Counted → Waiting
waiting_of c = record { in_flight = c.in_flight; unlinked = c.unlinked; retired = c.retired; drained = c.drained; refused = c.refused; worn = c.worn }

-- the places of these receipts
abbrev pub places_of : List Kept → List Place
places_of receipts = map (λ (k : Kept). k.identity) receipts

-- how many places wait for their release
abbrev pub places_waiting : Waiting → ℕ
places_waiting w = length w.unlinked + length w.retired + length w.drained

-- one place more is counted, for a page that is to be written
abbrev pub with_flight : Counted → Counted
with_flight c = record c { log = record c.log { unreleased = c.log.unreleased + 1 }; in_flight = c.in_flight + 1 }

-- a place is counted for a page that was written: it was counted before the write, or is now
abbrev pub claimed : Counted → Counted
claimed c = if nat_lt 0 c.in_flight then c else with_flight c

-- a place is counted off whose page could not be written
abbrev pub without_flight : Counted → Counted
without_flight c =
    if nat_lt 0 c.in_flight then record c { log = record c.log { unreleased = c.log.unreleased - 1 }; in_flight = c.in_flight - 1 } else c

-- the page of this number is the first that waits to be written, and is this one
pub record IsFirstSealed (log : HybridLog) (number : ℕ) (page : List ℕ) : Type 0 where
  pub sealed : IsSealed log number
  pub first : (earlier : ℕ) → earlier < number → IsSealed log earlier → ⊥
  pub copied : page ≡ page_of log.resident number

-- by what was begun
abbrev pub MatchBegun : Begun → (idle full : Type 0) → (sealed : ℕ → Type 0) → Type 0
MatchBegun begun.Idle idle full sealed = idle
MatchBegun begun.Full idle full sealed = full
MatchBegun (begun.Sealed number) idle full sealed = sealed number

-- the page still waits to be written, and is as it was written
abbrev pub IsAsWritten : HybridLog → (number : ℕ) (page : List ℕ) → Type 0
IsAsWritten log number page = IsSealed log number × (page ≡ page_of log.resident number)

-- A page was written, and its place is in flight no more: its receipt is kept, or it came too late and counts as unlinked.
pub record HasLanded (old : Counted) (number : ℕ) (page : List ℕ) (kept : Kept) (new : Counted) : Type 0 where
  pub how : (IsAsWritten old.log number page × (new ≡ record old { log = with_receipt old.log number kept; in_flight = old.in_flight - 1 }))
      ⊎ ((IsAsWritten old.log number page → ⊥) × (new ≡ record old { in_flight = old.in_flight - 1; unlinked = old.unlinked ++ kept ∷ [] }))

-- the first page that waits to be written was written to a place more, and its receipt, which shows it, is kept
pub record HasFlushed (old new : Counted) : Type 0 where
  pub number : ℕ
  pub kept : Kept
  pub waits : IsFirstSealed old.log number kept.shown
  pub is : new ≡ record old { log = record (with_receipt old.log number kept) { unreleased = old.log.unreleased + 1 } }

-- by what a step at the oldest page came to
abbrev pub MatchCleaning : Cleaning → (unlinked : Type 0) → (cold : ℕ → Type 0) → (heavy : ℕ → Type 0) → (resident : Type 0) → Type 0
MatchCleaning cleaning.Unlinked unlinked cold heavy resident = unlinked
MatchCleaning (cleaning.Cold number) unlinked cold heavy resident = cold number
MatchCleaning (cleaning.Heavy weight) unlinked cold heavy resident = heavy weight
MatchCleaning cleaning.Resident unlinked cold heavy resident = resident

-- The oldest page has left the log, whose live records are at the tail, and its receipt is the newest of the unlinked ones. The log keeps
-- none that shows the same page.
pub record HasUnlinked (old new : Counted) (weight : ℕ) : Type 0 where
  pub kept : Kept
  pub had : receipt_of old.log old.log.oldest ≡ Some kept
  pub left : IsUnlinked old.log new.log weight
  pub others : (k : Kept) → Contains new.log.kept (Some k) → k.shown ≢ kept.shown
  pub is : new ≡ record old { log = new.log; unlinked = old.unlinked ++ kept ∷ [] }

-- the oldest unlinked receipt was taken out, and its place is in flight
pub record HasTaken (old : Counted) (kept : Kept) (new : Counted) : Type 0 where
  pub others : List Kept
  pub had : old.unlinked ≡ kept ∷ others
  pub is : new ≡ record old { unlinked = others; in_flight = old.in_flight + 1 }

-- by what a step at the oldest place of a list came to
abbrev pub MatchMoved : Moved → (done nothing refused : Type 0) → Type 0
MatchMoved moved.Done done nothing refused = done
MatchMoved moved.Nothing done nothing refused = nothing
MatchMoved moved.Refused done nothing refused = refused

-- the oldest unlinked receipt is the newest of the retired ones, and no drain of it was refused yet
pub record HasRetired (old new : Counted) : Type 0 where
  pub kept : Kept
  pub others : List Kept
  pub had : old.unlinked ≡ kept ∷ others
  pub is : new ≡ record old { unlinked = others; retired = old.retired ++ kept ∷ []; refused = old.refused ++ (kept.identity, 0) ∷ [] }

-- the oldest retired receipt is the newest of the drained ones
pub record HasDrained (old new : Counted) : Type 0 where
  pub kept : Kept
  pub others : List Kept
  pub had : old.retired ≡ kept ∷ others
  pub count : ℕ
  pub counts : List (Place × ℕ)
  pub counted : old.refused ≡ (kept.identity, count) ∷ counts
  pub is : new ≡ record old { retired = others; drained = old.drained ++ kept ∷ []; refused = counts }

-- The oldest retired receipt is the newest of the drained ones; or a word that was read blocked its drain, and it is the newest of the retired ones.
pub record HasTurned (old new : Counted) : Type 0 where
  pub kept : Kept
  pub others : List Kept
  pub had : old.retired ≡ kept ∷ others
  pub count : ℕ
  pub counts : List (Place × ℕ)
  pub counted : old.refused ≡ (kept.identity, count) ∷ counts
  pub how : (new ≡ record old { retired = others; drained = old.drained ++ kept ∷ []; refused = counts })
      ⊎ ((now : ℕ) × (count < now) × (new ≡ record old { retired = others ++ kept ∷ []; refused = counts ++ (kept.identity, now) ∷ [] }))

-- a word that was read blocked its drain, and all is as it was
pub record WasRefused (old new : Counted) : Type 0 where
  pub place : Place
  pub count : ℕ
  pub counts : List (Place × ℕ)
  pub counted : old.refused ≡ (place, count) ∷ counts
  pub now : ℕ
  pub more : count < now
  pub is : new ≡ record old { refused = (place, now) ∷ counts }

-- The oldest drained receipt went back to its device, which serves all that it served but this one and its copies. Its place is counted off.
pub record HasReleased {R D : Type 0} (serves : D → R → Type 0) (identity : R → List ℕ) (old : Counted) (before : D) (new : Counted) (after : D) : Type 0 where
  pub kept : Kept
  pub others : List Kept
  pub had : old.drained ≡ kept ∷ others
  pub is : new ≡ record old { log = record old.log { unreleased = old.log.unreleased - 1 }; drained = others }
  pub served : (r : R) → identity r ≢ kept.identity → serves before r → serves after r

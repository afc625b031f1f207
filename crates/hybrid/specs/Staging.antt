-- Pages that were read outside, and the records that a cleaner copies.
use Rattle.std.specs.Prelude.{◌≡◌, ℕ, ◌+◌, ◌-◌, ◌*◌, ◌/◌, List, [], ◌∷◌, Bool, true, false, Option, Some, None, IsSome, MatchOption, slice_index_or, replicate, length, drop, ◌++◌, ◌<◌, ◌≤◌}
use Rattle.std.specs.List.{All, Contains}
use Rattle.records.specs.Page.{SameWithin}
use Rattle.records.specs.Records.{Stored, records_of}
use Rattle.frames.specs.Resident.{IsResident, next_number, first_mutable, page_of}
use Rattle.hybrid.specs.Log.{Log, IsShort, newest}
use Rattle.records.specs.declared.pages.TheConstants.{PAGE_SIZE, HEADER_SIZE}
use Rattle.hybrid.specs.declared.piece.Piece.{Piece}
use Rattle.hybrid.specs.declared.stripe.TheConstants.{CLOSED_MIN}
use Rattle.hybrid.specs.declared.stripe.clean.Cleaned.{Cleaned}
use Rattle.hybrid.specs.declared.stripe.clean.Cleaned.TheVariants as answer
use Rattle.hybrid.specs.declared.stripe.room.Room.{Room}
use Rattle.hybrid.specs.HybridLog.{HybridLog, Kept, page_at, receipt_of, SameContents, log_of, tail_bytes, without_oldest_page}
use Rattle.hybrid.specs.Lookups.{Leads}
use Rattle.hybrid.specs.Writing.{IsAdded}
use Rattle.hybrid.specs.Weighing.{lives}

-- a page, the receipt that it was read by, and the piece of it that was read, if it was not read whole
pub record StagedPage : Type 0 where
  pub kept : Kept
  pub page : List ℕ
  pub piece : Option Piece

-- what was read of it is what its receipt shows
abbrev pub IsRight : StagedPage → Type 0
IsRight s = MatchOption s.piece (s.page ≡ s.kept.shown) (λ piece. SameWithin piece.from piece.to s.page s.kept.shown)

-- of each page
abbrev pub AreRight : List StagedPage → Type 0
AreRight staged = All IsRight staged

-- a page is staged whole that was read by a receipt of this identity
pub record IsStaged (staged : List StagedPage) (identity : List ℕ) : Type 0 where
  pub one : StagedPage
  pub there : Contains staged one
  pub same : one.kept.identity ≡ identity
  pub whole : one.piece ≡ None

-- a page is staged that was read by one, whole or a piece of it
pub record IsRead (staged : List StagedPage) (identity : List ℕ) : Type 0 where
  pub one : StagedPage
  pub there : Contains staged one
  pub same : one.kept.identity ≡ identity

-- so many bytes from this place on were read of it
abbrev pub HasBytes : StagedPage → (from size : ℕ) → Type 0
HasBytes s from size = MatchOption s.piece (Unit {0}) (λ piece. (piece.from ≤ from) × (from + size ≤ piece.to))

-- a page is staged that was read by a receipt of this identity, and has these bytes
pub record AreBytesRead (staged : List StagedPage) (identity : List ℕ) (from size : ℕ) : Type 0 where
  pub one : StagedPage
  pub there : Contains staged one
  pub same : one.kept.identity ≡ identity
  pub has : HasBytes one from size

-- a page of the log that is neither resident nor staged whole
pub record IsMissing (p : HybridLog) (staged : List StagedPage) (number : ℕ) : Type 0 where
  pub kept : Kept
  pub live : p.oldest ≤ number
  pub has : receipt_of p number ≡ Some kept
  pub away : IsResident p.resident number → ⊥
  pub unread : IsStaged staged kept.identity → ⊥

-- one of the oldest page's records has a value, and the lookup of its key comes to the page of this number
pub record IsNeeded (p : HybridLog) (number : ℕ) : Type 0 where
  pub entry : ℕ × Stored
  pub listed : Contains (records_of (page_at p p.oldest)) entry
  pub value : IsSome entry.1.value
  pub leads : Leads p entry.1.key number

-- each record is one that a write makes
abbrev pub AreShort : List (ℕ × Stored) → Type 0
AreShort records = (offset : ℕ) (r : Stored) → Contains records (offset, r) → IsShort r

-- the record is the newest of its key and has a value
pub record IsLive (log : Log) (address : ℕ) (r : Stored) : Type 0 where
  pub newest : newest log r.key ≡ Some (address, r)
  pub value : IsSome r.value

-- the record may be forgotten
abbrev pub IsDead : Log → ℕ → Stored → Type 0
IsDead log address r = newest log r.key ≡ Some (address, r) → r.value ≡ None

-- which of a page's records are live, each by an eighth of its offset
abbrev pub AreMarked : Log → ℕ → List (ℕ × Stored) → List Bool → Type 0
AreMarked log number records live =
    (offset : ℕ) (r : Stored) → Contains records (offset, r) → (slice_index_or live (offset / 8) false ≡ true → IsLive log (number * PAGE_SIZE + offset) r) × (slice_index_or live (offset / 8) false ≡ false → IsDead log (number * PAGE_SIZE + offset) r)
    × (slice_index_or live (offset / 8) false ≡ lives log (number * PAGE_SIZE + offset) r)

-- a record that was gone over: where it is live, one of its key and value was added at the tail, and else nothing has changed
pub record IsGoneOver (log : Log) (address : ℕ) (r : Stored) (old new : HybridLog) : Type 0 where
  pub live : IsLive log address r → (to : ℕ) × IsAdded old new to r.key r.value
  pub other : (IsLive log address r → ⊥) → new ≡ old

-- for the live ones of these records of the page with this number, and for no others, records were added, in their order
abbrev pub AreAdded : Log → ℕ → List (ℕ × Stored) → HybridLog → HybridLog → Type 0
AreAdded log number [] old new = old ≡ new
AreAdded log number (e ∷ es) old new = (mid : HybridLog) × IsGoneOver log (number * PAGE_SIZE + e.0) e.1 old mid × AreAdded log number es mid new

-- the oldest page, of these bytes, has no record left that counts: the live ones were added at the tail, and no others,
-- and all keys have what they had
pub record IsCopied (old new : HybridLog) (page : List ℕ) : Type 0 where
  pub same : SameContents old new
  pub added : AreAdded (log_of old) old.oldest (records_of page) old new
  pub dead : (offset : ℕ) (r : Stored) → Contains (records_of page) (offset, r) → IsDead (log_of new) (old.oldest * PAGE_SIZE + offset) r

-- the oldest page has left the log: `opened` pages have come at the tail, no more than writes of this weight open, and none
-- where those fit into the tail page
pub record IsUnlinked (old new : HybridLog) (weight : ℕ) : Type 0 where
  pub opened : ℕ
  pub few : opened ≤ weight / CLOSED_MIN + 1
  pub none : weight + tail_bytes old ≤ PAGE_SIZE - HEADER_SIZE → opened ≡ 0
  pub oldest : new.oldest ≡ old.oldest + 1
  pub kept : new.kept ≡ drop 1 (old.kept ++ replicate opened None)
  pub first : new.resident.oldest ≡ old.resident.oldest
  pub next : next_number new.resident ≡ next_number old.resident + opened
  pub frames : new.resident.frames ≡ old.resident.frames
  pub buckets : length new.heads ≡ length old.heads
  pub stripes : new.stripes ≡ old.stripes
  pub unreleased : new.unreleased ≡ old.unreleased
  pub places : new.places ≡ old.places
  -- read-only pages stay as they are
  pub read_only : (n : ℕ) → old.resident.oldest ≤ n → n < first_mutable old.resident → page_of new.resident n ≡ page_of old.resident n

-- the live records of the oldest page were added at the tail, and no others; then the page left the log
pub record IsCleaned (old new : HybridLog) : Type 0 where
  pub mid : HybridLog
  pub added : AreAdded (log_of old) old.oldest (records_of (page_at old old.oldest)) old mid
  pub left : new ≡ without_oldest_page mid

abbrev pub MatchCleaned : {R : Type 0} → Cleaned R → (R → Type 0) → (ℕ → Room → Type 0) → (ℕ → Type 0) → Type 0 → Type 0
MatchCleaned (answer.Unlinked receipt) P Q H S = P receipt
MatchCleaned (answer.Cold number room) P Q H S = Q number room
MatchCleaned (answer.Heavy weight) P Q H S = H weight
MatchCleaned answer.Nothing P Q H S = S

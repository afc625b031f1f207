-- What a stripe is seen as: a hybrid log (FASTER, "HybridLog") whose oldest pages are on a device, and its index.
use Rattle.std.specs.Prelude.{◌≡◌, ◌⊎◌, ℕ, suc, ◌+◌, ◌-◌, ◌*◌, ◌/◌, ◌%◌, ◌^◌, ◌<◌, ◌≤◌, List, [], ◌∷◌, ◌++◌, length, map, take, drop, replicate, slice_index, slice_index_or, slice_set, nat_lt, if◌then◌else◌, Option, Some, None, IsSome}
use Rattle.std.specs.List.{All, Contains}
use Rattle.records.specs.Records.{Stored, records_of, IsLaidOut}
use Rattle.records.specs.declared.pages.TheConstants.{PAGE_SIZE, HEADER_SIZE}
use Rattle.records.specs.Page.{empty_page, used_end}
use Rattle.frames.specs.declared.TheConstants.{NUMBER_BITS}
use Rattle.frames.specs.Resident.{Resident, next_number, page_of, first_mutable, without_oldest, with_opened}
use Rattle.hybrid.specs.declared.stripe.TheConstants.{CLOSED_MIN, LAST_PAGE}
use Rattle.words.specs.declared.limits.TheConstants.{FRAMES_MIN}
use Rattle.words.specs.Stripes.{hash_of}
use Rattle.hybrid.specs.Log.{Log, contents, log_from, AllLaid, IsLinked, IsShort, Joins, begin_of, page_log}

-- a receipt that is kept: what it has in common with its copies, and the page that it shows
pub record Kept : Type 0 where
  pub identity : List ℕ
  pub shown : List ℕ

pub record HybridLog : Type 0 where
  -- the number of the oldest page
  pub oldest : ℕ
  -- the receipts of the pages from the oldest to the tail page
  pub kept : List (Option Kept)
  -- the resident pages, and how many frames there are
  pub resident : Resident
  -- the heads of the buckets
  pub heads : List ℕ
  -- how many stripes the store has
  pub stripes : ℕ
  -- places on the device that were taken and not released, and the most of them
  pub unreleased : ℕ
  pub places : ℕ

abbrev pub shown_page : Option Kept → List ℕ
shown_page None = []
shown_page (Some kept) = kept.shown

-- how many pages are not resident
abbrev pub cold : HybridLog → ℕ
cold p = p.resident.oldest - p.oldest

-- the pages of the log: those that receipts show, and the resident ones
abbrev pub pages_of : HybridLog → List (List ℕ)
pages_of p = map shown_page (take (cold p) p.kept) ++ p.resident.pages

abbrev pub log_of : HybridLog → Log
log_of p = log_from p.oldest (pages_of p)

-- the bytes of the page with this number
abbrev pub page_at : HybridLog → ℕ → List ℕ
page_at p number = slice_index_or (pages_of p) (number - p.oldest) []

-- the bucket of a key
abbrev pub bucket_of : HybridLog → List ℕ → ℕ
bucket_of p key = hash_of key / p.stripes % length p.heads

-- the head of its bucket: where the newest record of that bucket stands
abbrev pub head_of : HybridLog → List ℕ → ℕ
head_of p key = slice_index p.heads (bucket_of p key)

-- the log of a new stripe: its page 0 is open and has no record
abbrev pub empty_log : ℕ → ℕ → ℕ → ℕ → HybridLog
empty_log stripes buckets frames places = record {
  oldest = 0;
  kept = None ∷ [];
  resident = record { oldest = 0; pages = empty_page 0 ∷ []; frames = frames };
  heads = replicate buckets 0;
  stripes = stripes;
  unreleased = 0;
  places = places;
}

-- the receipt of the page with this number
abbrev pub receipt_of : HybridLog → ℕ → Option Kept
receipt_of p number = slice_index_or p.kept (number - p.oldest) None

-- the same of any number
abbrev pub receipt_at : HybridLog → ℕ → Option Kept
receipt_at p number = if nat_lt number p.oldest then None else receipt_of p number

abbrev pub count_kept : List (Option Kept) → ℕ
count_kept [] = 0
count_kept (None ∷ rest) = count_kept rest
count_kept (Some k ∷ rest) = suc (count_kept rest)

pub record IsHybridLog (p : HybridLog) : Type 0 where
  pub numbered : p.oldest + length p.kept ≡ next_number p.resident
  pub live : p.oldest ≤ p.resident.oldest
  pub tail : 0 < length p.resident.pages
  pub enough : FRAMES_MIN ≤ p.resident.frames
  pub fits : length p.resident.pages ≤ p.resident.frames
  pub shared : 0 < p.stripes
  pub buckets : 0 < length p.heads
  pub laid : AllLaid p.oldest (pages_of p)
  pub linked : IsLinked (bucket_of p) (begin_of p.oldest) (log_of p)
  pub joined : (b : ℕ) → b < length p.heads → Joins (bucket_of p) (begin_of p.oldest) (slice_index p.heads b) (log_of p) b
  pub cold_kept : (i : ℕ) → i < cold p → IsSome (slice_index_or p.kept i None)
  pub shows : (i : ℕ) (k : Kept) → cold p ≤ i → slice_index_or p.kept i None ≡ Some k → (k.shown ≡ page_of p.resident (p.oldest + i)) × (p.oldest + i < first_mutable p.resident)
  pub counted : count_kept p.kept ≤ p.unreleased
  pub few : next_number p.resident < 2 ^ NUMBER_BITS
  pub short : All (λ (e : ℕ × Stored). IsShort e.1) (log_of p)
  pub limited : p.unreleased ≤ p.places

-- frames without a page
abbrev pub free : HybridLog → ℕ
free p = p.resident.frames - length p.resident.pages

-- the bytes of records in the tail page
abbrev pub tail_bytes : HybridLog → ℕ
tail_bytes p = used_end (slice_index_or p.resident.pages (length p.resident.pages - 1) []) - HEADER_SIZE

-- where a log ends: the number of its tail page, and the bytes of records in it
pub record Tail : Type 0 where
  pub page : ℕ
  pub bytes : ℕ

abbrev pub tail_of : HybridLog → Tail
tail_of p = record { page = next_number p.resident - 1; bytes = tail_bytes p }

-- where it ends after one record more, of this size: the tail page stays where the record fits into it, and only else
-- is the next one opened
abbrev pub tail_with : Tail → ℕ → Tail
tail_with tail size =
    if nat_lt (PAGE_SIZE - HEADER_SIZE) (tail.bytes + size) then record { page = tail.page + 1; bytes = size } else record { page = tail.page; bytes = tail.bytes + size }

-- the most pages that writes of this weight can open: none where they fit in the tail page, else one, and one more for
-- each page that they close, which holds more than CLOSED_MIN bytes of them
abbrev pub pages_for : HybridLog → ℕ → ℕ
pages_for p weight = if nat_lt (PAGE_SIZE - HEADER_SIZE) (weight + tail_bytes p) then weight / CLOSED_MIN + 1 else 0

-- the frames that are free or may become so: one for each place on the device that may still be taken
abbrev pub available : HybridLog → ℕ
available p = free p + (p.places - p.unreleased)

-- the same once each place has come back that is no page's of the log: of those whose receipts wait to be released, and of a page that is being written
abbrev pub expected : HybridLog → ℕ
expected p = free p + (p.places - count_kept p.kept)

-- frames for the pages that writes of this weight can open, and numbers for these pages
pub record HasFrames (p : HybridLog) (weight : ℕ) : Type 0 where
  pub frames : (weight + tail_bytes p < CLOSED_MIN * (free p + 1)) ⊎ (weight < CLOSED_MIN * free p)
  pub numbers : next_number p.resident + weight ≤ 2 * LAST_PAGE

-- writes of this weight find room: in the tail page, or in pages for which there are frames
pub record HasRoom (p : HybridLog) (weight : ℕ) : Type 0 where
  pub room : (weight + tail_bytes p ≤ PAGE_SIZE - HEADER_SIZE) ⊎ HasFrames p weight

-- what writes of at most this weight to the tail leave: pages may be opened
pub record IsGrown (old new : HybridLog) (weight : ℕ) : Type 0 where
  pub opened : ℕ
  pub few : opened ≤ weight / CLOSED_MIN + 1
  pub oldest : new.oldest ≡ old.oldest
  pub kept : new.kept ≡ old.kept ++ replicate opened None
  pub first : new.resident.oldest ≡ old.resident.oldest
  pub next : next_number new.resident ≡ next_number old.resident + opened
  pub frames : new.resident.frames ≡ old.resident.frames
  pub buckets : length new.heads ≡ length old.heads
  pub stripes : new.stripes ≡ old.stripes
  pub unreleased : new.unreleased ≡ old.unreleased
  pub places : new.places ≡ old.places
  -- read-only pages stay as they are
  pub read_only : (n : ℕ) → old.resident.oldest ≤ n → n < first_mutable old.resident → page_of new.resident n ≡ page_of old.resident n
  -- none is opened where the writes fit into the tail page
  pub none : weight + tail_bytes old ≤ PAGE_SIZE - HEADER_SIZE → opened ≡ 0
  -- how the bytes in the tail page and the pages opened go together
  pub bytes : CLOSED_MIN * opened + tail_bytes new ≤ tail_bytes old + weight
  pub closed : (opened ≡ 0) ⊎ (CLOSED_MIN * (opened - 1) + tail_bytes new ≤ weight)

-- the oldest page leaves the log
abbrev pub without_oldest_page : HybridLog → HybridLog
without_oldest_page p = record p { oldest = p.oldest + 1; kept = drop 1 p.kept }

-- the oldest resident page leaves its frame
abbrev pub with_dropped : HybridLog → HybridLog
with_dropped p = record p { resident = without_oldest p.resident }

-- a receipt is kept for the page with this number
abbrev pub with_receipt : HybridLog → ℕ → Kept → HybridLog
with_receipt p number kept = record p { kept = slice_set p.kept (number - p.oldest) (Some kept) }

-- the page with this number waits for the flusher, and has these bytes
pub record IsSealed (p : HybridLog) (number : ℕ) : Type 0 where
  pub from : p.resident.oldest ≤ number
  pub below : number < first_mutable p.resident
  pub none : receipt_of p number ≡ None

-- both have the same contents
abbrev pub SameContents : HybridLog → HybridLog → Type 0
SameContents old new = (key : List ℕ) → contents (log_of new) key ≡ contents (log_of old) key

-- an empty page behind the tail page
abbrev pub with_page_opened : HybridLog → HybridLog
with_page_opened p = record p { kept = p.kept ++ None ∷ []; resident = with_opened p.resident }

-- what a write to the tail page leaves
pub record IsPut (old new : HybridLog) : Type 0 where
  pub oldest : new.oldest ≡ old.oldest
  pub kept : new.kept ≡ old.kept
  pub first : new.resident.oldest ≡ old.resident.oldest
  pub count : length new.resident.pages ≡ length old.resident.pages
  pub frames : new.resident.frames ≡ old.resident.frames
  pub buckets : length new.heads ≡ length old.heads
  pub stripes : new.stripes ≡ old.stripes
  pub unreleased : new.unreleased ≡ old.unreleased
  pub places : new.places ≡ old.places
  -- read-only pages stay as they are
  pub read_only : (n : ℕ) → old.resident.oldest ≤ n → n < first_mutable old.resident → page_of new.resident n ≡ page_of old.resident n

-- the older log is the newer one, and behind it the records of a page that is laid out, each short
pub record IsCut (older newer : Log) (number : ℕ) (page : List ℕ) : Type 0 where
  pub log : older ≡ newer ++ page_log number page
  pub laid : IsLaidOut page
  pub short : (offset : ℕ) (r : Stored) → Contains (records_of page) (offset, r) → IsShort r

-- The log of a stripe (FASTER, "HybridLog"): its records with their addresses, newest first.
-- An address is a page's number times the bytes of a page, plus an offset in the page.
use Rattle.std.specs.Prelude.{◌≡◌, ℕ, ◌+◌, ◌-◌, ◌*◌, ◌<◌, ◌≤◌, ◌==◌, cond, List, [], ◌∷◌, ◌++◌, length, Option, Some, None, MatchOption}
use Rattle.words.specs.declared.limits.TheConstants.{VALUE_BYTES_MAX}
use Rattle.std.specs.Str.{bytes_eq}
use Rattle.records.specs.declared.pages.TheConstants.{PAGE_SIZE, HEADER_SIZE}
use Rattle.records.specs.declared.entries.TheConstants.{KEY_BYTES_MAX, RECORD_HEADER}
use Rattle.records.specs.Page.{number_of}
use Rattle.records.specs.Records.{Stored, size_of, value_bytes, size_for, records_of, IsLaidOut}
use Rattle.hybrid.specs.declared.stripe.TheConstants.{RECORD_MAX}
use Rattle.words.specs.Stripes.{hash_of}

abbrev pub Log : Type 0
Log = List (ℕ × Stored)

-- the newest record of a key
unfoldable pub newest : Log → List ℕ → Option (ℕ × Stored)
newest [] key = None
newest (e ∷ log) key = cond (bytes_eq e.1.key key) (Some e) (newest log key)

abbrev pub value_of : Option (ℕ × Stored) → Option (List ℕ)
value_of None = None
value_of (Some e) = e.1.value

-- what a key has: the value of its newest record, none where that is a tombstone
unfoldable pub contents : Log → List ℕ → Option (List ℕ)
contents log key = value_of (newest log key)

-- a record of the page with this number, at its address
abbrev pub addressed : ℕ → ℕ × Stored → ℕ × Stored
addressed number e = (number * PAGE_SIZE + e.0, e.1)

-- the records that a lookup of a key goes over: those of its bucket, newest first, up to the first of the key
abbrev pub chain : (List ℕ → ℕ) → Log → List ℕ → Log
chain bucket [] key = []
chain bucket (e ∷ log) key = cond (bytes_eq e.1.key key) (e ∷ []) (cond (bucket e.1.key == bucket key) (e ∷ chain bucket log key) (chain bucket log key))

-- records of a page, oldest first, as records of the log, newest first
abbrev pub newest_first : ℕ → List (ℕ × Stored) → Log
newest_first number [] = []
newest_first number (e ∷ es) = newest_first number es ++ addressed number e ∷ []

-- the records of one page, newest first
unfoldable pub page_log : ℕ → List ℕ → Log
page_log number page = newest_first number (records_of page)

-- the records of pages numbered from `number` on, newest first
unfoldable pub log_from : ℕ → List (List ℕ) → Log
log_from number [] = []
log_from number (page ∷ pages) = log_from (number + 1) pages ++ page_log number page

-- the pages are laid out, and numbered from `number` on
abbrev pub AllLaid : ℕ → List (List ℕ) → Type 0
AllLaid number [] = Unit {0}
AllLaid number (page ∷ pages) = IsLaidOut page × (number_of page ≡ number) × AllLaid (number + 1) pages

-- the newest address of a bucket
abbrev pub head : (List ℕ → ℕ) → Log → ℕ → Option ℕ
head bucket [] b = None
head bucket (e ∷ log) b = cond (bucket e.1.key == b) (Some e.0) (head bucket log b)

-- the address is that of the newest record of the bucket, or ends the chain
abbrev pub Joins : (List ℕ → ℕ) → ℕ → ℕ → Log → ℕ → Type 0
Joins bucket begin address log b = MatchOption (head bucket log b) (address < begin) (λ h. address ≡ h)

-- the newest address, 0 where there is none
abbrev pub top : Log → ℕ
top [] = 0
top (e ∷ log) = e.0

pub record IsNext (bucket : List ℕ → ℕ) (begin : ℕ) (e : ℕ × Stored) (log : Log) : Type 0 where
  pub live : begin ≤ e.0
  pub falls : top log < e.0
  pub joins : Joins bucket begin e.1.link log (bucket e.1.key)

-- each record links to the next older one of its bucket
abbrev pub IsLinked : (List ℕ → ℕ) → ℕ → Log → Type 0
IsLinked bucket begin [] = Unit {0}
IsLinked bucket begin (e ∷ log) = IsNext bucket begin e log × IsLinked bucket begin log

-- where the records of a page begin
abbrev pub begin_of : ℕ → ℕ
begin_of number = number * PAGE_SIZE + HEADER_SIZE

-- a key and a value that a record may have
pub record Fits (key : List ℕ) (value : Option (List ℕ)) : Type 0 where
  pub key_fits : length key ≤ KEY_BYTES_MAX
  pub value_fits : length (value_bytes value) ≤ VALUE_BYTES_MAX

-- a record that a write makes
pub record IsShort (r : Stored) : Type 0 where
  pub size : size_of r ≤ RECORD_MAX
  pub fits : Fits r.key r.value

-- the value of each key is one that a record may have
abbrev pub AreValuesShort : Log → Type 0
AreValuesShort log = (key : List ℕ) → length (value_bytes (contents log key)) ≤ VALUE_BYTES_MAX

-- a log with one record more, of this link, key and value, which has room for all that its size leaves
pub record IsAppended (older newer : Log) (address link : ℕ) (key : List ℕ) (value : Option (List ℕ)) : Type 0 where
  pub put : Stored
  pub link_is : put.link ≡ link
  pub key_is : put.key ≡ key
  pub hash_is : put.hash ≡ hash_of key
  pub value_is : put.value ≡ value
  pub capacity : put.capacity ≡ size_for (length key) (length (value_bytes value)) - RECORD_HEADER - length key
  pub log : newer ≡ (address, put) ∷ older

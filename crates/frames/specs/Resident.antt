-- The resident pages of a hybrid log (FASTER, "HybridLog": a read-only part and, at the tail, a mutable part),
-- as a list by number.
use Rattle.std.specs.Prelude.{◌≡◌, ℕ, ◌+◌, ◌-◌, ◌/◌, ◌<◌, ◌≤◌, List, [], ◌∷◌, ◌++◌, length, drop, max, slice_index_or, slice_set}
use Rattle.records.specs.declared.pages.TheConstants.{HEADER_SIZE}
use Rattle.records.specs.Page.{empty_page, number_of, used_end}
use Rattle.records.specs.Records.{records_of, IsLaidOut}

-- the pages numbered from `oldest` on, each as its bytes, in this many frames
pub record Resident : Type 0 where
  pub oldest : ℕ
  pub pages : List (List ℕ)
  pub frames : ℕ

-- the number of the page that is opened next: one above the tail page's
abbrev pub next_number : Resident → ℕ
next_number r = r.oldest + length r.pages

-- the page of this number is in a frame
abbrev pub IsResident : Resident → ℕ → Type 0
IsResident r number = (r.oldest ≤ number) × (number < next_number r)

-- the bytes of a resident page
abbrev pub page_of : Resident → ℕ → List ℕ
page_of r number = slice_index_or r.pages (number - r.oldest) []

-- where the mutable part begins: it is the tail page and the `frames / 3 - 1` pages before it, or all if there are fewer
abbrev pub first_mutable : Resident → ℕ
first_mutable r = max r.oldest (next_number r - r.frames / 3)

abbrev pub IsMutable : Resident → ℕ → Type 0
IsMutable r number = (first_mutable r ≤ number) × (number < next_number r)

-- a page with this number and no record
pub record IsEmptyPage (number : ℕ) (page : List ℕ) : Type 0 where
  pub numbered : number_of page ≡ number
  pub end : used_end page ≡ HEADER_SIZE
  pub records : records_of page ≡ []
  pub laid_out : IsLaidOut page

-- the pages after an empty page has been opened
abbrev pub with_opened : Resident → Resident
with_opened r = record r { pages = r.pages ++ empty_page (next_number r) ∷ [] }

-- the pages after the oldest has been dropped
abbrev pub without_oldest : Resident → Resident
without_oldest r = record { oldest = r.oldest + 1; pages = drop 1 r.pages; frames = r.frames }

-- the pages after one has been given these bytes
abbrev pub with_page : Resident → ℕ → List ℕ → Resident
with_page r number bytes = record r { pages = slice_set r.pages (number - r.oldest) bytes }

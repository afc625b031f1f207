-- The world's device, place by place.
use Rattle.std.specs.Prelude.{ℕ, ◌≡◌, ◌+◌, Bool, true, false, List, [], ◌∷◌, ◌++◌, length, set, Option, Some, None, slice_get, map, if◌then◌else◌}
use Rattle.words.specs.Store.{Bytes}
use Rattle.records.specs.Page.{empty_page}
use Rattle.hybrid.specs.HybridLog.{Kept}
use Rattle.shards.specs.Receipts.{kept_by}

-- A receipt: a place, the page that it shows, and whether its place was released since. The device gives none of a place that was released;
-- by these as well, what it serves says all of its places.
pub record Receipt : Type 0 where
  pub place : ℕ
  pub page : Bytes
  pub released : Bool

-- a number for a truth value
abbrev pub flag : Bool → ℕ
flag true = 1
flag false = 0

-- what a receipt has in common with its copies
abbrev pub identity : Receipt → List ℕ
identity receipt = receipt.place ∷ flag receipt.released ∷ receipt.page

-- a receipt, as logs see it
abbrev pub view : Receipt → Kept
view = kept_by identity (λ r. r.page)

-- a place: the page that a read gives, and whether it was released
pub record Shelf : Type 0 where
  pub page : Bytes
  pub released : Bool

-- The places that were ever taken, in their order; how many writes failed; and how often pages were read, and receipts taken back.
pub record Shelves : Type 0 where
  pub shelves : List Shelf
  pub failures : ℕ
  pub reads : ℕ
  pub releases : ℕ

-- how often it was asked to write: each write took a place or failed
abbrev pub writes_of : Shelves → ℕ
writes_of device = length device.shelves + device.failures

-- a page was written to the next place
abbrev pub with_shelf : Shelves → Bytes → Shelves
with_shelf device page = record device { shelves = device.shelves ++ record { page = page; released = false } ∷ [] }

-- a place was released, and shows this page
abbrev pub with_shown : Shelves → ℕ → Bytes → Shelves
with_shown device place page = record device { shelves = set device.shelves place (record { page = page; released = true }) }

-- a page was read, or a receipt taken back
abbrev pub after_read : Shelves → Shelves
after_read device = record device { reads = device.reads + 1 }

abbrev pub after_release : Shelves → Shelves
after_release device = record device { releases = device.releases + 1 }

-- a read of the place gives the page that the receipt shows, and it was released, or was not, as the receipt says
abbrev pub Serves : Shelves → Receipt → Type 0
Serves device receipt = slice_get device.shelves receipt.place ≡ Some (record { page = receipt.page; released = receipt.released })

-- the page that a read of a place gives; an empty one of a place that was never taken
abbrev pub page_on : Option Shelf → Bytes
page_on None = empty_page 0
page_on (Some shelf) = shelf.page

abbrev pub page_read : Shelves → ℕ → Bytes
page_read device place = page_on (slice_get device.shelves place)

-- for each place, the page that a read gives since it was released
abbrev pub page_released : Shelf → Option Bytes
page_released shelf = if shelf.released then Some shelf.page else None

abbrev pub places_of : Shelves → List (Option Bytes)
places_of device = map page_released device.shelves

-- a write of this page gave this receipt: it was put at the next place, and nothing else has changed
abbrev pub Wrote : Shelves → Bytes → Receipt → Shelves → Type 0
Wrote before page receipt after =
    (receipt ≡ record { place = length before.shelves; page = page; released = false }) × (after ≡ with_shelf before page)

-- its places are the same, and what a read of each gives
abbrev pub SamePlaces : Shelves → Shelves → Type 0
SamePlaces old new = new.shelves ≡ old.shelves

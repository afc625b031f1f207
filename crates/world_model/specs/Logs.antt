-- A stripe's log as plain data (FASTER, SIGMOD 2018, "HybridLog"), and what flusher, evictor and cleaner make of it.
use Rattle.std.specs.Prelude.{ℕ, zero, suc, ◌+◌, ◌-◌, ◌/◌, Bool, ◌||◌, ◌&&◌, List, [], ◌∷◌, ◌++◌, length, get_or, set, drop}
use Rattle.std.specs.Prelude.{max, replicate, Option, Some, None, is_none, nat_lt, nat_le, if◌then◌else◌}

-- What the flusher has of a stripe: nothing; a copy of the page with this number; or that, and the receipt of the place to which it was
-- written. A place is numbered by the write that took it, among all writes to the device.
pub data Flushing : Type 0 where
  Nothing : Flushing
  Copied : (page : ℕ) → Flushing
  Wrote : (page place : ℕ) → Flushing

-- A place that is retired, and the epoch of its stamp.
pub record Stamped : Type 0 where
  pub place : ℕ
  pub epoch : ℕ

-- A log: the numbers of its oldest page and of its first resident page; for each page from the oldest to the tail page, the place of the
-- receipt that is kept of it, if one is; what the flusher has of it; and the places whose receipts have left it, the oldest first: those
-- that are unlinked and not retired, those retired and not drained, and those drained and not released.
pub record LogState : Type 0 where
  pub oldest : ℕ
  pub first : ℕ
  pub kept : List (Option ℕ)
  pub flushing : Flushing
  pub unlinked : List ℕ
  pub retired : List Stamped
  pub drained : List Stamped

-- a log at the beginning: page 0 is open
abbrev pub new_log : LogState
new_log = record { oldest = 0; first = 0; kept = None ∷ []; flushing = Nothing; unlinked = []; retired = []; drained = [] }

-- PAGES

-- the number of the page that is opened next: one above the tail page's
abbrev pub next_page : LogState → ℕ
next_page log = log.oldest + length log.kept

-- the place of the receipt that is kept of the page with this number, if one is
abbrev pub place_at : LogState → ℕ → Option ℕ
place_at log number = if nat_lt number log.oldest then None else get_or log.kept (number - log.oldest) None

-- how many pages the mutable part has, of so many frames: the tail page, and those before it as far as they are resident
abbrev pub mutable_pages : (frames : ℕ) → ℕ
mutable_pages frames = frames / 3

-- where the mutable part begins; resident pages before it are read-only
abbrev pub first_mutable : (frames : ℕ) → LogState → ℕ
first_mutable frames log = max log.first (next_page log - mutable_pages frames)

-- whether a page is sealed, that is, waits for the flusher: it is resident, read-only and without a receipt
abbrev pub is_sealed : (frames : ℕ) → LogState → ℕ → Bool
is_sealed frames log number = nat_le log.first number && (nat_lt number (first_mutable frames log) && is_none (place_at log number))

-- the first of so many pages, from this number on, without a receipt
abbrev pub first_without_receipt : LogState → (number count : ℕ) → Option ℕ
first_without_receipt log number zero = None
first_without_receipt log number (suc count) =
    if is_none (place_at log number) then Some number else first_without_receipt log (number + 1) count

-- the oldest sealed page
abbrev pub oldest_sealed : (frames : ℕ) → LogState → Option ℕ
oldest_sealed frames log = first_without_receipt log log.first (first_mutable frames log - log.first)

-- PLACES

-- the places of the receipts that are kept
abbrev pub places_kept : List (Option ℕ) → List ℕ
places_kept [] = []
places_kept (None ∷ kept) = places_kept kept
places_kept (Some place ∷ kept) = place ∷ places_kept kept

-- the place that the flusher has written to
abbrev pub place_written : Flushing → List ℕ
place_written Nothing = []
place_written (Copied page) = []
place_written (Wrote page place) = place ∷ []

-- the places among these with stamps
abbrev pub places_stamped : List Stamped → List ℕ
places_stamped [] = []
places_stamped (one ∷ others) = one.place ∷ places_stamped others

-- the places that were taken for a log and are not released
abbrev pub places_of : LogState → List ℕ
places_of log =
    places_kept log.kept ++ (place_written log.flushing ++ (log.unlinked ++ (places_stamped log.retired ++ places_stamped log.drained)))

-- a place that is counted before it is written to
abbrev pub count_copied : Flushing → ℕ
count_copied Nothing = 0
count_copied (Copied page) = 1
count_copied (Wrote page place) = 0

-- How many places count as unreleased: those that were taken, and the one that the flusher is to take.
abbrev pub unreleased : LogState → ℕ
unreleased log = length (places_of log) + count_copied log.flushing

-- no place is taken where the tail page has this number or a greater one
abbrev pub LAST_PAGE : ℕ
LAST_PAGE = 70368744177664

-- Whether no place may be taken for a log: so many are unreleased as there may be, or its tail page is the last.
abbrev pub is_full : (limit : ℕ) → LogState → Bool
is_full limit log = nat_le limit (unreleased log) || nat_lt LAST_PAGE (next_page log)

-- WHAT BECOMES OF A LOG

-- the receipt of this place is kept of the page with this number
abbrev pub with_receipt : LogState → (number place : ℕ) → LogState
with_receipt log number place = record log { kept = set log.kept (number - log.oldest) (Some place) }

-- the oldest resident page leaves its frame
abbrev pub dropped : LogState → LogState
dropped log = record log { first = log.first + 1 }

-- so many pages are opened behind the tail page
abbrev pub with_opened : LogState → ℕ → LogState
with_opened log opened = record log { kept = log.kept ++ replicate opened None }

-- the oldest page leaves the log, and the place of its receipt is unlinked
abbrev pub without_oldest : LogState → (place : ℕ) → LogState
without_oldest log place = record log { oldest = log.oldest + 1; kept = drop 1 log.kept; unlinked = log.unlinked ++ place ∷ [] }

-- the flusher copies this page
abbrev pub copied_page : Option ℕ → Flushing
copied_page None = Nothing
copied_page (Some page) = Copied page

-- the flusher copies the oldest sealed page
abbrev pub with_copy : (frames : ℕ) → LogState → LogState
with_copy frames log = record log { flushing = copied_page (oldest_sealed frames log) }

-- what the flusher has once it has written its page to this place
abbrev pub written_to : Flushing → ℕ → Flushing
written_to Nothing place = Nothing
written_to (Copied page) place = Wrote page place
written_to (Wrote page old) place = Wrote page old

abbrev pub with_written : LogState → ℕ → LogState
with_written log place = record log { flushing = written_to log.flushing place }

-- The flusher comes back with a receipt: it is kept where its page is sealed still, and else its place is unlinked at once. (A page that
-- is sealed still is as it was copied, since read-only pages do not change.)
abbrev pub installed_from : (frames : ℕ) → LogState → Flushing → LogState
installed_from frames log Nothing = log
installed_from frames log (Copied page) = log
installed_from frames log (Wrote page place) =
    if is_sealed frames log page then record (with_receipt log page place) { flushing = Nothing }
    else record log { flushing = Nothing; unlinked = log.unlinked ++ place ∷ [] }

abbrev pub with_installed : (frames : ℕ) → LogState → LogState
with_installed frames log = installed_from frames log log.flushing

-- the oldest unlinked place is retired, with this stamp
abbrev pub retired_from : LogState → List ℕ → (epoch : ℕ) → LogState
retired_from log [] epoch = log
retired_from log (one ∷ others) epoch =
    record log { unlinked = others; retired = log.retired ++ record { place = one; epoch = epoch } ∷ [] }

abbrev pub with_retired : LogState → (epoch : ℕ) → LogState
with_retired log epoch = retired_from log log.unlinked epoch

-- the oldest retired place is drained
abbrev pub drained_from : LogState → List Stamped → LogState
drained_from log [] = log
drained_from log (one ∷ others) = record log { retired = others; drained = log.drained ++ one ∷ [] }

abbrev pub with_drained : LogState → LogState
with_drained log = drained_from log log.retired

-- the oldest drained place leaves
abbrev pub released_from : LogState → List Stamped → LogState
released_from log [] = log
released_from log (one ∷ others) = record log { drained = others }

abbrev pub with_released : LogState → LogState
with_released log = released_from log log.drained

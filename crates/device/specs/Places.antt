-- The places of a file.
use Rattle.std.specs.Prelude.{◌≡◌, ◌≢◌, ◌<◌, ℕ, Some, slice_get, vec_len}
use Rattle.device.specs.declared.places.Place.TheVariants.{Taken}
use Rattle.device.specs.declared.places.Places.{Places}

-- how many places the file has had
abbrev pub count_of : Places → ℕ
count_of places = vec_len places.places

-- a page lies at this place
abbrev pub IsTaken : Places → ℕ → Type 0
IsTaken places place = slice_get places.places.items place ≡ Some Taken

-- a page lies at each place that the file has had
abbrev pub AreAllTaken : Places → Type 0
AreAllTaken places = (place : ℕ) → place < count_of places → IsTaken places place

-- all places but one stay as they are
abbrev pub StaySame : ℕ → (before later : Places) → Type 0
StaySame place before later =
    (other : ℕ) → other ≢ place → slice_get later.places.items other ≡ slice_get before.places.items other

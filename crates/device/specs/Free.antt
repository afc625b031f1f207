-- The places of a file that are free.
use Rattle.std.specs.Prelude.{ℕ, List, Bool, true, false, Option, None, Some, nat_eq, count_by}
use Rattle.device.specs.declared.places.Place.{Place}
use Rattle.device.specs.declared.places.Place.TheVariants.{Taken, Free}

-- how often a number stands in a list
abbrev pub times : ℕ → List ℕ → ℕ
times number numbers = count_by (λ n. nat_eq n number) numbers

-- 1 for a place that is free, 0 for one that is taken or that the file never had
abbrev pub spare : Option Place → ℕ
spare None = 0
spare (Some Taken) = 0
spare (Some Free) = 1

-- a place is free
abbrev pub is_free : Place → Bool
is_free Taken = false
is_free Free = true

-- how many places are free
abbrev pub free_places : List Place → ℕ
free_places places = count_by is_free places

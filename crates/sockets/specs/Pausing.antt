-- How long a read waited for the cleaner.
use Rattle.std.specs.Prelude.{ℕ, ◌≡◌, ◌≤◌, ◌<◌, ◌+◌, ◌-◌, Bool, true, false}

-- an answer counts once where it is yes
abbrev pub count_of : Bool → ℕ
count_of true = 1
count_of false = 0

-- what was done so far: how often it was asked whether the cleaner is behind, how often it was said so, and for how many milliseconds it was
-- waited for
pub record Pauses : Type 0 where
  pub asked : ℕ
  pub told : ℕ
  pub waited : ℕ

abbrev pub pauses : (asked told waited : ℕ) → Pauses
pauses a t w = record { asked = a; told = t; waited = w }

-- It was waited for a millisecond each time that it was said to be behind, 20 at most, and for less only where it was then said that it is not.
-- Nothing else was asked or waited between the two.
pub record HasPaused (old new : Pauses) : Type 0 where
  pub each : new.waited - old.waited ≡ new.told - old.told
  pub most : new.waited - old.waited ≤ 20
  pub stops : new.waited - old.waited < 20 → new.asked - old.asked ≡ new.told - old.told + 1

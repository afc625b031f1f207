-- The numbers by which the ends of connections are kept.
use Rattle.std.specs.Prelude.{ℕ, ◌≤◌}

-- a number that stands for an ending: 1 to 6
abbrev pub IsEndingNumber : ℕ → Type 0
IsEndingNumber number = (1 ≤ number) × (number ≤ 6)

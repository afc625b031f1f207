-- When an epoch is clear, for real words and for plain data alike.
use Rattle.std.specs.Prelude.{ℕ, ◌<◌}

-- The epoch is past e, and no stay is valid at e or below (FASTER, SIGMOD 2018, "Epoch Protection": e is safe). `At x` says that a stay
-- is valid at x.
abbrev pub Clear : (epoch e : ℕ) → (At : ℕ → Type 0) → Type 0
Clear epoch e At = (e < epoch) × ((x : ℕ) → At x → e < x)

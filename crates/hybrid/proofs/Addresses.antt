-- What a comparison of two addresses says.
use Rattle.std.proofs.Common.{◌≡◌, ◌<◌, ◌≤◌, ℕ, true, false, sym, arith}
use Rattle.std.specs.Ordering.{nat_cmp, is_le}
use Rattle.std.proofs.lemmas.Bool.Decides.{nat_tests}
use Rattle.std.proofs.lemmas.Map.Keys.{le_from_is_le}

module _ (a b : ℕ) where
  pub at_most : true ≡ is_le (nat_cmp a b) → a ≤ b
  at_most h = le_from_is_le a b (sym h)

  pub beyond : false ≡ is_le (nat_cmp a b) → b < a
  beyond h = grind (arith, nat_tests)

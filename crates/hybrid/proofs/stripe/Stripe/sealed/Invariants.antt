use Rattle.std.proofs.Common.{ℕ, ◌<◌}
use Rattle.hybrid.specs.HybridLog.{IsSealed}
use Rattle.hybrid.proofs.stripe.Stripe.sealed.Given as goal

abbrev pub invariant-loop-number : goal.invariant-loop-number
invariant-loop-number g l = (n : ℕ) → n < l.number → IsSealed l.self n → ⊥

use Rattle.std.proofs.Common.{rules}
use Rattle.hybrid.proofs.stripe.Stripe.receipt.Goals as goal

pub returns-then-number-self : goal.returns-then-number-self
returns-then-number-self g c = search rules

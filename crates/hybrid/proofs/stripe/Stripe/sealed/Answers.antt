use Rattle.std.proofs.Common.{rules}
use Rattle.hybrid.proofs.stripe.Stripe.sealed.Goals as goal

pub loop-number-init : goal.loop-number-init
loop-number-init g c = search rules

use Rattle.std.proofs.Common.{rules}
use Rattle.hybrid.proofs.stripe.Stripe.take_place.Goals as goal

pub invariant_of-self : goal.invariant_of-self
invariant_of-self g c = search rules

pub returns-clause-limit : goal.returns-clause-limit
returns-clause-limit g c = search rules

use Rattle.std.proofs.Common.{arith}
use Rattle.hybrid.proofs.Dropping.{dropped-from}
use Rattle.hybrid.proofs.stripe.Stripe.drop_frame.Goals as goal

pub invariant_of-self : goal.invariant_of-self
invariant_of-self g c =
    let d = dropped-from _ _ c.drop_oldest-dropped.new.self c.drop_oldest-dropped.result c.self.view_is c.self.invariant.0 c.requires c.drop_oldest-dropped.ensures.outside.1 c.drop_oldest-dropped.ensures.dropped in
    (d.0, omega (arith, d.1, c.self.invariant.1), c.self.invariant.2)

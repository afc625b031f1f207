use Rattle.hybrid.specs.Staging.{AreRight}
use Rattle.hybrid.specs.Ways.{IsNear}
use Rattle.hybrid.proofs.Finding.{IsFinding}
use Rattle.hybrid.proofs.stripe.Stripe.newest.Given as goal

abbrev pub invariant-loop-begin : goal.invariant-loop-begin
invariant-loop-begin g l = IsFinding g.R.Shows.is_honest (AreRight l.staged) l.self l.key (IsNear g.R.Shows.lends l.self l.staged) l.address

abbrev pub decreases-loop-begin : goal.decreases-loop-begin
decreases-loop-begin g l = l.address

use Rattle.std.proofs.Common.{◌≡◌, ◌+◌, length}
use Rattle.hybrid.specs.Reserving.{AreNewServed, frames_for}
use Rattle.hybrid.specs.Shedding.{HasShed}
use Rattle.hybrid.proofs.Reserving.{IsReserving}
use Rattle.hybrid.proofs.stripe.Stripe.reserve.Given as goal

abbrev pub invariant-loop-self : goal.invariant-loop-self
invariant-loop-self g l = record {
  reserving : IsReserving l.fn.self l.self (g.D.Device.failures l.fn.device) (g.D.Device.failures l.device) (frames_for l.fn.self l.fn.weight l.fn.purpose);
  shed : HasShed g.D.Device.wrote (λ r. record { identity = g.R.Shows.identity r; shown = g.R.Shows.shown r }) l.fn.self l.fn.device l.self l.device;
  served : (r : g.row.R.Denot) → g.D.Device.serves l.fn.device r → g.D.Device.serves l.device r;
  new_served : g.R.Shows.is_honest → AreNewServed g.D.Device.serves (λ r. record { identity = g.R.Shows.identity r; shown = g.R.Shows.shown r }) l.fn.self l.self l.device;
  releases : g.D.Device.releases l.device ≡ g.D.Device.releases l.fn.device;
  writes : g.D.Device.writes l.device + l.fn.self.unreleased ≡ g.D.Device.writes l.fn.device + l.self.unreleased;
}

abbrev pub decreases-loop-self : goal.decreases-loop-self
decreases-loop-self g l = length l.self.resident.pages

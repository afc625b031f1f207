use Rattle.std.proofs.Common.{◌≡◌, ◌∷◌, []}
use Rattle.epoch.specs.Seats as seats
use Rattle.epoch.specs.Seats.{IsOutside}
use Rattle.gates.specs.Passes.{IsResting, known}
use Rattle.background.specs.Visits.{HasLooked}
use Rattle.background.proofs.flush.end.Given as goal

abbrev pub invariant-loop : goal.invariant-loop
invariant-loop g l = record {
  resting : IsResting g.R.Shows.is_steady l.at.gates.now l.pass;
  outside : IsOutside l.at.epochs.now l.seat;
  shown : g.R.Shows.shown l.written.receipt ≡ l.written.page.now;
  writes : g.D.Device.writes l.device ≡ g.D.Device.writes l.fn.device;
  looked : HasLooked (l.at.stripe ∷ []) (g.D.Device.failures l.fn.device) (g.D.Device.failures l.device) (known l.fn.pass) (known l.pass) (seats.known l.fn.seat) (seats.known l.seat);
}

use Rattle.std.proofs.Common.{◌-◌, ◌≤◌, ◌∷◌, []}
use Rattle.epoch.specs.Seats as seats
use Rattle.epoch.specs.Seats.{IsOutside}
use Rattle.gates.specs.Passes.{IsResting, known}
use Rattle.hybrid.specs.Staging.{AreRight}
use Rattle.background.specs.declared.clean.TheConstants.{ROUNDS}
use Rattle.background.specs.Visits.{HasLooked}
use Rattle.background.proofs.clean.clean_one.Given as goal

abbrev pub invariant-rounds : goal.invariant-rounds
invariant-rounds g l = record {
  resting : IsResting g.R.Shows.is_steady l.at.gates.now l.pass;
  outside : IsOutside l.at.epochs.now l.seat;
  right : g.R.Shows.is_steady → AreRight l.staged;
  few : l.round ≤ ROUNDS;
  looked : HasLooked (l.at.stripe ∷ []) (g.D.Device.failures l.fn.device) (g.D.Device.failures l.device) (known l.fn.pass) (known l.pass) (seats.known l.fn.seat) (seats.known l.seat);
}

abbrev pub decreases-rounds : goal.decreases-rounds
decreases-rounds g l = ROUNDS - l.round

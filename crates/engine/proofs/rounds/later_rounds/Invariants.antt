use Rattle.std.proofs.Common.{◌-◌}
use Rattle.gates.specs.Passes.{IsResting, known}
use Rattle.engine.specs.declared.visit.TheConstants.{ROUNDS}
use Rattle.engine.specs.Entering.{HasWaited}
use Rattle.engine.specs.Visits.{IsVisit, view_of}
use Rattle.shards.specs.Heard.{HasHeard}
use Rattle.engine.proofs.rounds.later_rounds.Given as goal

abbrev pub invariant-rounds : goal.invariant-rounds
invariant-rounds g l = record {
  rests : IsResting g.R.Shows.is_steady l.site.gates.now l.pass;
  visit : IsVisit g.R.Shows.is_steady l.site.epochs.now l.visit;
  heard : HasHeard (view_of l.fn.visit) (view_of l.visit);
  waited : HasWaited l.asking.wanted.now (known l.fn.pass, g.D.Device.failures l.fn.device) (known l.pass, g.D.Device.failures l.device);
}

abbrev pub decreases-rounds : goal.decreases-rounds
decreases-rounds g l = ROUNDS - l.visit.rounds

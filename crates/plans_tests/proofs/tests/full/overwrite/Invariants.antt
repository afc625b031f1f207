use Rattle.epoch.specs.Seats.{IsOutside}
use Rattle.plans_tests.proofs.tests.full.overwrite.Given as goal

abbrev pub invariant-loop-time : goal.invariant-loop-time
invariant-loop-time l = IsOutside l.epochs l.seat

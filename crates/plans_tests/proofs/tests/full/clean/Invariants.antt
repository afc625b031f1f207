use Rattle.epoch.specs.Seats.{IsOutside}
use Rattle.plans_tests.proofs.tests.full.clean.Given as goal

abbrev pub invariant-loop : goal.invariant-loop
invariant-loop g l = IsOutside l.epochs l.seat

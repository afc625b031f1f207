use Rattle.epoch.specs.Seats.{IsOutside}
use Rattle.store_tests.proofs.stays.stay_often.Given as goal

-- the seat is outside
abbrev pub invariant-loop : goal.invariant-loop
invariant-loop g l = IsOutside l.epochs l.seat

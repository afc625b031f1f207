use Rattle.epoch.specs.Seats.{IsOutside}
use Rattle.store_tests.proofs.stays.drain.Given as goal

-- the seat is outside
abbrev pub invariant-loop : goal.invariant-loop
invariant-loop l = IsOutside l.epochs l.seat

use Rattle.std.proofs.Common.{◌≤◌}
use Rattle.epoch.specs.Seats.{IsOutside}
use Rattle.store_tests.proofs.stays.retire_often.Given as goal

-- the seat is outside, and at most each value came back
abbrev pub invariant-loop-n : goal.invariant-loop-n
invariant-loop-n l = IsOutside l.epochs l.seat × (l.done ≤ l.n)

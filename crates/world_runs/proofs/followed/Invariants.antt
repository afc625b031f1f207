use Rattle.std.proofs.Common.{length}
use Rattle.world.specs.Tables.{IsWorld}
use Rattle.world_runs.proofs.followed.Given as goal

abbrev pub invariant-loop-event : goal.invariant-loop-event
invariant-loop-event l = IsWorld l.world

abbrev pub decreases-loop-event : goal.decreases-loop-event
decreases-loop-event l = length l.left

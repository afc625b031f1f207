use Rattle.shards.proofs.Freed.{IsTurning}
use Rattle.shards.proofs.freeing.drain_all.Given as goal

abbrev pub invariant-each : goal.invariant-each
invariant-each g l = IsTurning l.fn.log l.log l.left

abbrev pub decreases-each : goal.decreases-each
decreases-each g l = l.left

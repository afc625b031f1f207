use Rattle.world.specs.Tables.{AreEndable}
use Rattle.world.proofs.world.end_members.Given as goal

abbrev pub invariant-loop-member : goal.invariant-loop-member
invariant-loop-member l = AreEndable l.left.items

abbrev pub decreases-loop-member : goal.decreases-loop-member
decreases-loop-member l = goal.left-loop-member l

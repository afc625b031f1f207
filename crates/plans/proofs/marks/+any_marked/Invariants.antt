use Rattle.std.proofs.Common.{length}
use Rattle.plans.proofs.marks.+any_marked.Given as goal

abbrev pub decreases-any_marked : goal.decreases-any_marked
decreases-any_marked g l = length l.keys.now

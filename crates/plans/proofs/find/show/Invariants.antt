use Rattle.std.proofs.Common.{◌≡◌, ◌++◌, length}
use Rattle.plans.proofs.find.show.Given as goal

abbrev pub invariant-loop-first : goal.invariant-loop-first
invariant-loop-first l = l.shown ++ l.left ≡ l.fn.shown ++ l.found

abbrev pub decreases-loop-first : goal.decreases-loop-first
decreases-loop-first l = length l.left

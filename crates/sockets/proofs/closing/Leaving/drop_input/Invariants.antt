use Rattle.std.proofs.Common.{◌≤◌}
use Rattle.sockets.proofs.closing.Leaving.drop_input.Given as goal

abbrev pub invariant-loop-self : goal.invariant-loop-self
invariant-loop-self l = l.self.left ≤ l.initial.self.left

abbrev pub decreases-loop-self : goal.decreases-loop-self
decreases-loop-self l = l.self.left

use Rattle.std.proofs.Common.{◌≡◌, ◌+◌, vec_len}
use Rattle.connection_tests.proofs.cold.failing.Given as goal

abbrev pub invariant-loop-opening : goal.invariant-loop-opening
invariant-loop-opening l = vec_len l.openings + vec_len l.below ≡ l.limits.clients + 3

abbrev pub decreases-loop-opening : goal.decreases-loop-opening
decreases-loop-opening l = vec_len l.below

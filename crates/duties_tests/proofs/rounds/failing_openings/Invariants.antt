use Rattle.std.proofs.Common.{◌≡◌, ◌+◌, vec_len}
use Rattle.duties_tests.proofs.rounds.failing_openings.Given as goal

abbrev pub invariant-loop-device : goal.invariant-loop-device
invariant-loop-device g l = vec_len l.openings + vec_len l.below ≡ 4

abbrev pub decreases-loop-device : goal.decreases-loop-device
decreases-loop-device g l = vec_len l.below

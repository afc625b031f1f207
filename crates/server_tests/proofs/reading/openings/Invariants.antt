use Rattle.std.proofs.Common.{◌≡◌, ◌+◌, vec_len}
use Rattle.server_tests.proofs.reading.openings.Given as goal

abbrev pub invariant-loop-device : goal.invariant-loop-device
invariant-loop-device g l = vec_len l.openings + vec_len l.below ≡ l.options.workers + 3

abbrev pub decreases-loop-device : goal.decreases-loop-device
decreases-loop-device g l = vec_len l.below

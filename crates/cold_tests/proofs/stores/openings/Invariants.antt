use Rattle.std.proofs.Common.{◌≡◌, ◌+◌, vec_len}
use Rattle.cold_tests.proofs.stores.openings.Given as goal

abbrev pub invariant-loop-device : goal.invariant-loop-device
invariant-loop-device l = vec_len l.openings + vec_len l.below ≡ 4

abbrev pub decreases-loop-device : goal.decreases-loop-device
decreases-loop-device l = vec_len l.below

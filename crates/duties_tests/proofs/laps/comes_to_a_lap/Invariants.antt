use Rattle.std.proofs.Common.{◌≡◌}
use Rattle.duties_tests.proofs.laps.comes_to_a_lap.Given as goal

abbrev pub invariant-loop-look : goal.invariant-loop-look
invariant-loop-look l = l.laps.left ≡ 0

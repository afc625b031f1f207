use Rattle.std.proofs.Common.{◌≡◌}
use Rattle.duties_tests.proofs.laps.has_laps.Given as goal

abbrev pub invariant-loop-looks : goal.invariant-loop-looks
invariant-loop-looks g l = l.laps.left ≡ 0

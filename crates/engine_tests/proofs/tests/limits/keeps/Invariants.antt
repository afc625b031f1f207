use Rattle.std.specs.Prelude.{⊤}
use Rattle.engine.specs.Passes.{Rests}
use Rattle.engine_tests.proofs.tests.limits.keeps.Given as goal

abbrev pub invariant-loop-number : goal.invariant-loop-number
invariant-loop-number g l = Rests ⊤ l.engine l.pass

use Rattle.engine.specs.Passes.{Rests}
use Rattle.engine_tests.proofs.tests.trying.lines_are_answered.Given as goal

abbrev pub invariant-loop-line : goal.invariant-loop-line
invariant-loop-line g l = Rests (Unit {0}) l.engine l.pass

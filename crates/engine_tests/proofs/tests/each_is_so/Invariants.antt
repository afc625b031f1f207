use Rattle.engine.specs.Passes.{Rests}
use Rattle.engine_tests.proofs.tests.each_is_so.Given as goal

abbrev pub invariant-loop-number : goal.invariant-loop-number
invariant-loop-number g l = Rests (Unit {0}) l.client.engine l.client.pass

use Rattle.engine.specs.Passes.{Rests}
use Rattle.engine_harness.proofs.calls.lines_are_due.Given as goal

abbrev pub invariant-loop-line : goal.invariant-loop-line
invariant-loop-line g l = Rests (Unit {0}) l.engine l.pass

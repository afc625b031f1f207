use Rattle.engine.specs.Passes.{Rests}
use Rattle.duties_tests.proofs.rounds.fills_with.Given as goal

abbrev pub invariant-loop-number : goal.invariant-loop-number
invariant-loop-number g l = Rests g.D.Receipt.Shows.is_steady l.engine l.pass

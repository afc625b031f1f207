use Rattle.engine.specs.Passes.{Rests}
use Rattle.duties_tests.proofs.rounds.comes_to_be_full.Given as goal

abbrev pub invariant-loop : goal.invariant-loop
invariant-loop g l = Rests g.D.Receipt.Shows.is_steady l.engine l.pass

use Rattle.engine.specs.Passes.{Rests}
use Rattle.duties_tests.proofs.rounds.are_all_used.Given as goal

abbrev pub invariant-loop-stripe : goal.invariant-loop-stripe
invariant-loop-stripe g l = Rests g.D.Receipt.Shows.is_steady l.engine l.pass

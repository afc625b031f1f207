use Rattle.store_tests.specs.Nothing.{Rests}
use Rattle.store_tests.proofs.passes.commit_many.Given as goal

abbrev pub invariant-loop-n : goal.invariant-loop-n
invariant-loop-n g l = Rests l.gates l.pass

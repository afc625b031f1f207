use Rattle.gates.specs.Sets.{AreBelow}
use Rattle.store_tests.proofs.passes.all.Given as goal

abbrev pub invariant-loop-n : goal.invariant-loop-n
invariant-loop-n l = AreBelow 64 l.all

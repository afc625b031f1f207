use Rattle.std.proofs.Common.{◌≡◌, vec_len}
use Rattle.gates.specs.Plays.{AreEmpty}
use Rattle.store_tests.specs.Nothing.{nothing}
use Rattle.store_tests.proofs.passes.parts.Given as goal

abbrev pub invariant-loop-number : goal.invariant-loop-number
invariant-loop-number g l = (vec_len l.parts ≡ l.number) × AreEmpty nothing l.parts.items

use Rattle.std.proofs.Common.{arith}
use Rattle.std.proofs.lemmas.Grind.{common_steps}
use Rattle.index.proofs.Index.head.Goals as goal

pub returns-clause-head : goal.returns-clause-head
returns-clause-head c = grind (arith, common_steps)

use Rattle.std.proofs.Common.{arith}
use Rattle.std.proofs.lemmas.Grind.{common_steps}
use Rattle.strings.proofs.growing.append.Goals as goal

pub returns-clause-reply : goal.returns-clause-reply
returns-clause-reply c = grind (arith, common_steps)

pub returns-clause-writes : goal.returns-clause-writes
returns-clause-writes c = grind (arith, common_steps)

use Rattle.std.proofs.Common.{arith}
use Rattle.std.proofs.lemmas.Grind.{common_steps}
use Rattle.resp_read.proofs.look.word_at.Goals as goal

pub returns-then-long-oldest-clause-bytes : goal.returns-then-long-oldest-clause-bytes
returns-then-long-oldest-clause-bytes c = grind (arith, common_steps)

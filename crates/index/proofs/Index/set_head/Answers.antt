use Rattle.std.proofs.Common.{rules}
use Rattle.index.proofs.Index.set_head.Goals as goal

pub returns-clause-heads : goal.returns-clause-heads
returns-clause-heads c = search rules

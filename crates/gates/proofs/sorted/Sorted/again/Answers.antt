use Rattle.std.proofs.Common.{rules}
use Rattle.gates.proofs.sorted.Sorted.again.Goals as goal

pub returns : goal.returns
returns c = search rules

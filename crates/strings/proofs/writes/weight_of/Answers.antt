use Rattle.std.proofs.Common.{rules}
use Rattle.strings.proofs.writes.weight_of.Goals as goal

pub returns : goal.returns
returns c = search rules

use Rattle.std.proofs.Common.{rules}
use Rattle.words.proofs.shapes.is_long.Goals as goal

pub returns : goal.returns
returns c = search rules

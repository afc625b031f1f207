use Rattle.std.proofs.Common.{rules}
use Rattle.index.proofs.Index.new.Goals as goal

pub returns : goal.returns
returns c = search rules

use Rattle.std.proofs.Common.{rules}
use Rattle.watch.proofs.Marks.take_back.Goals as goal

pub returns : goal.returns
returns c = search rules

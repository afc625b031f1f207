use Rattle.std.proofs.Common.{rules}
use Rattle.frames.proofs.Frames.first_mutable.Goals as goal

pub returns : goal.returns
returns c = search rules

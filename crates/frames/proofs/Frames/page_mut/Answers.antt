use Rattle.std.proofs.Common.{rules}
use Rattle.frames.proofs.Frames.page_mut.Goals as goal

pub returns : goal.returns
returns c = search rules

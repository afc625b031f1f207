use Rattle.std.proofs.Common.{rules}
use Rattle.frames.proofs.Frames.drop_oldest.Goals as goal

pub returns-clause-outside : goal.returns-clause-outside
returns-clause-outside c = search rules

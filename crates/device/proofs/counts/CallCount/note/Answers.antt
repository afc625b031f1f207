use Rattle.std.proofs.Common.{rules}
use Rattle.device.proofs.counts.CallCount.note.Goals as goal

pub returns : goal.returns
returns c = search rules

use Rattle.std.proofs.Common.{rules}
use Rattle.strings.proofs.overlay.Overlay.write.Goals as goal

pub returns-clause-writes : goal.returns-clause-writes
returns-clause-writes c = search rules

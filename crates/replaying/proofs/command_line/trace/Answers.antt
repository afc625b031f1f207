use Rattle.std.proofs.Common.{rules}
use Rattle.replaying.proofs.command_line.trace.Goals as goal

pub returns : goal.returns
returns c = record { rule = search rules; own = search rules }

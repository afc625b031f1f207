use Rattle.std.proofs.Common.{rules}
use Rattle.strings.proofs.run.read.Goals as goal

pub returns-in-Session-clause-reply : goal.returns-in-Session-clause-reply
returns-in-Session-clause-reply c = search rules

use Rattle.std.proofs.Common.{rules}
use Rattle.words.proofs.reply.ProtocolFault.text.Goals as goal

pub returns-in-BadLength : goal.returns-in-BadLength
returns-in-BadLength c = search rules

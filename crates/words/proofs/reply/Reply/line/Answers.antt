use Rattle.std.proofs.Common.{rules}
use Rattle.words.proofs.reply.Reply.line.Goals as goal

pub returns : goal.returns
returns c = search rules

use Rattle.std.proofs.Common.{rules}
use Rattle.words.proofs.reply.CommandReply.integer.Goals as goal

pub returns : goal.returns
returns c = search rules

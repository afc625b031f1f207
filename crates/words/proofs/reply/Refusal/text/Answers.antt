use Rattle.std.proofs.Common.{rules}
use Rattle.words.proofs.reply.Refusal.text.Goals as goal

pub returns-in-Syntax : goal.returns-in-Syntax
returns-in-Syntax c = search rules

use Rattle.std.proofs.Common.{rules}
use Rattle.words.proofs.reply.Line.text.Goals as goal

pub returns-in-Done-clause-text : goal.returns-in-Done-clause-text
returns-in-Done-clause-text c = search rules

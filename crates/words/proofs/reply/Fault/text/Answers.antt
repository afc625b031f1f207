use Rattle.std.proofs.Common.{rules}
use Rattle.words.proofs.reply.Fault.text.Goals as goal

pub returns-in-OutOfMemory : goal.returns-in-OutOfMemory
returns-in-OutOfMemory c = search rules

use Rattle.std.proofs.Common.{rules}
use Rattle.words.proofs.reply.TransactionError.text.Goals as goal

pub returns-in-ExecWithoutMulti : goal.returns-in-ExecWithoutMulti
returns-in-ExecWithoutMulti c = search rules

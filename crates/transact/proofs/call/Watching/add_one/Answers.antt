use Rattle.std.proofs.Common.{rules}
use Rattle.transact.proofs.call.Watching.add_one.Goals as goal

pub returns-in_err-key-clause-memory : goal.returns-in_err-key-clause-memory
returns-in_err-key-clause-memory c = search rules

pub returns-in_err-insert-clause-memory : goal.returns-in_err-insert-clause-memory
returns-in_err-insert-clause-memory c = search rules

pub returns-clause-ok : goal.returns-clause-ok
returns-clause-ok c = search rules

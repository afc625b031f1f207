use Rattle.std.proofs.Common.{rules}
use Rattle.resp_read.proofs.reader.Reader.next.Goals as goal

pub returns-in-Ok-true-clause-none : goal.returns-in-Ok-true-clause-none
returns-in-Ok-true-clause-none c = search rules

pub returns-in-Ok-true-clause-waits : goal.returns-in-Ok-true-clause-waits
returns-in-Ok-true-clause-waits c = search rules

pub returns-in-Ok-true-clause-bounded : goal.returns-in-Ok-true-clause-bounded
returns-in-Ok-true-clause-bounded c = search rules

pub returns-in-Ok-true-clause-takes_up : goal.returns-in-Ok-true-clause-takes_up
returns-in-Ok-true-clause-takes_up c = search rules

pub returns-in-Ok-true-clause-keeps : goal.returns-in-Ok-true-clause-keeps
returns-in-Ok-true-clause-keeps c = search rules

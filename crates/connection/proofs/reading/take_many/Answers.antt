use Rattle.std.proofs.Common.{rules}
use Rattle.connection.proofs.reading.take_many.Goals as goal

pub returns-in-Failure-clause-end : goal.returns-in-Failure-clause-end
returns-in-Failure-clause-end g c = search rules

pub returns-in-Failure-clause-told : goal.returns-in-Failure-clause-told
returns-in-Failure-clause-told g c = search rules

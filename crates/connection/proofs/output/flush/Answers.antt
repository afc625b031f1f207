use Rattle.std.proofs.Common.{rules}
use Rattle.connection.proofs.output.flush.Goals as goal

pub returns-clause-empty : goal.returns-clause-empty
returns-clause-empty g c = search rules

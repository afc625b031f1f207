use Rattle.std.proofs.Common.{rules}
use Rattle.gates.proofs.part.replace.Goals as goal

pub returns-clause-old : goal.returns-clause-old
returns-clause-old g c = search rules

pub returns-clause-written : goal.returns-clause-written
returns-clause-written g c = search rules

pub returns-clause-others : goal.returns-clause-others
returns-clause-others g c = search rules

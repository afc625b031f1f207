use Rattle.std.proofs.Common.{rules}
use Rattle.strings.proofs.counters.subtract.Goals as goal

pub returns-in-None-clause-reply : goal.returns-in-None-clause-reply
returns-in-None-clause-reply c = search rules

pub returns-in-None-clause-writes : goal.returns-in-None-clause-writes
returns-in-None-clause-writes c = search rules

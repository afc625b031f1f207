use Rattle.std.proofs.Common.{rules}
use Rattle.strings.proofs.writing.set_all_if_missing.Goals as goal

pub returns-clause-reply : goal.returns-clause-reply
returns-clause-reply c = search rules

pub returns-clause-writes : goal.returns-clause-writes
returns-clause-writes c = search rules

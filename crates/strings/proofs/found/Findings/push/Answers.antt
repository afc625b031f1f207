use Rattle.std.proofs.Common.{rules}
use Rattle.strings.proofs.found.Findings.push.Goals as goal

pub returns-clause-ok : goal.returns-clause-ok
returns-clause-ok c = search rules

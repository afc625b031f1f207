use Rattle.std.proofs.Common.{rules}
use Rattle.plans.proofs.marks.forget.Goals as goal

pub returns-clause-became : goal.returns-clause-became
returns-clause-became g c = search rules

use Rattle.std.proofs.Common.{rules}
use Rattle.session.proofs.counting.with_one_more.Goals as goal

pub returns-in-Some : goal.returns-in-Some
returns-in-Some c = search rules

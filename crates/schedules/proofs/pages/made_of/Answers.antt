use Rattle.std.proofs.Common.{rules}
use Rattle.schedules.proofs.pages.made_of.Goals as goal

pub returns-then-byte : goal.returns-then-byte
returns-then-byte c = search rules

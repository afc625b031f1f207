use Rattle.std.proofs.Common.{rules}
use Rattle.strings.proofs.writing.allows.Goals as goal

pub returns-in-Always-default-2 : goal.returns-in-Always-default-2
returns-in-Always-default-2 c = search rules

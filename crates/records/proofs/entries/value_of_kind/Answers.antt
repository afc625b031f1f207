use Rattle.std.proofs.Common.{rules}
use Rattle.records.proofs.entries.value_of_kind.Goals as goal

pub returns-in-2 : goal.returns-in-2
returns-in-2 c = search rules

use Rattle.std.proofs.Common.{rules}
use Rattle.upkeep.proofs.laps.Laps.vain_after.Goals as goal

pub returns-else-has_gained : goal.returns-else-has_gained
returns-else-has_gained c = search rules

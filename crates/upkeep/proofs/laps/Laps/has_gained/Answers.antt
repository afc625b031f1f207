use Rattle.std.proofs.Common.{rules}
use Rattle.upkeep.proofs.laps.Laps.has_gained.Goals as goal

pub returns : goal.returns
returns c = search rules

use Rattle.std.proofs.Common.{rules}
use Rattle.upkeep.proofs.laps.Laps.patience_after.Goals as goal

pub returns-then-has_gained-clause-value : goal.returns-then-has_gained-clause-value
returns-then-has_gained-clause-value c = search rules

use Rattle.std.proofs.Common.{rules}
use Rattle.upkeep.proofs.laps.Choice.patience.Goals as goal

pub returns-in-Tried-clause-value : goal.returns-in-Tried-clause-value
returns-in-Tried-clause-value c = search rules

pub returns-in-Tried-clause-bound : goal.returns-in-Tried-clause-bound
returns-in-Tried-clause-bound c = search rules

use Rattle.std.proofs.Common.{rules}
use Rattle.upkeep.proofs.laps.Laps.choice.Goals as goal

pub returns-then-self-patience_after : goal.returns-then-self-patience_after
returns-then-self-patience_after c = search rules

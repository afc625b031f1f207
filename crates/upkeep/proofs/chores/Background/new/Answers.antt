use Rattle.std.proofs.Common.{rules}
use Rattle.upkeep.proofs.chores.Background.new.Goals as goal

pub returns-clause-flusher : goal.returns-clause-flusher
returns-clause-flusher c = search rules

use Rattle.std.proofs.Common.{rules}
use Rattle.upkeep.proofs.rounds.rest_after.Goals as goal

pub returns-then-idle : goal.returns-then-idle
returns-then-idle c = search rules

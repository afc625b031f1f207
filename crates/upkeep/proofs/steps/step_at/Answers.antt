use Rattle.std.proofs.Common.{rules}
use Rattle.upkeep.proofs.steps.step_at.Goals as goal

pub returns-in-Evict-clause-told : goal.returns-in-Evict-clause-told
returns-in-Evict-clause-told g c = search rules

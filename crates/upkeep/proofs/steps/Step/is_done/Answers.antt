use Rattle.std.proofs.Common.{rules}
use Rattle.upkeep.proofs.steps.Step.is_done.Goals as goal

pub returns-in-Next : goal.returns-in-Next
returns-in-Next c = search rules

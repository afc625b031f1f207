use Rattle.world_log.proofs.FreeSteps.{waits_kept}
use Rattle.world_log.proofs.laws.plans_keep_what_waits.Goals as goal

pub returns : goal.returns
returns c = waits_kept

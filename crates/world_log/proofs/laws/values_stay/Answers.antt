use Rattle.world_log.proofs.Values.{values_same}
use Rattle.world_log.proofs.laws.values_stay.Goals as goal

pub returns : goal.returns
returns c old new change even keeps still became = values_same old new change keeps still became

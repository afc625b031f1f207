use Rattle.world_model.proofs.Telling.{rest_is}
use Rattle.world_model.proofs.theorems.resting_clients_are_answered.Goals as goal

pub returns : goal.returns
returns c = λ state d headline below is. rest_is state d headline below is

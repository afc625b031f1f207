use Rattle.world_model.proofs.Waiting.{none_stuck}
use Rattle.world_model.proofs.theorems.no_client_is_stuck.Goals as goal

pub returns : goal.returns
returns c = λ state d order below busy. none_stuck state d order below busy

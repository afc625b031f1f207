use Rattle.world_model.proofs.Falling.{turn_falls}
use Rattle.world_model.proofs.theorems.calls_come_to_an_end.Goals as goal

pub returns : goal.returns
returns c = λ before e after of enabled sound order turn. turn_falls before e after of enabled sound order turn

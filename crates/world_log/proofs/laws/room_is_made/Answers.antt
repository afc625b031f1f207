use Rattle.world_log.proofs.Planning.{room_made_is, room_met_is}
use Rattle.world_log.proofs.laws.room_is_made.Goals as goal

pub returns : goal.returns
returns c = record { made = room_made_is; full = room_met_is }

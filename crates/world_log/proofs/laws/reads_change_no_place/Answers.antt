use Rattle.world_log.proofs.GivenSteps.{given_places}
use Rattle.world_log.proofs.Opening.{log_read, places_read, served_lent, state_read}
use Rattle.world_log.proofs.laws.reads_change_no_place.Goals as goal

pub returns : goal.returns
returns c = record { places = places_read; log = log_read; state = state_read; given = given_places; served = served_lent }

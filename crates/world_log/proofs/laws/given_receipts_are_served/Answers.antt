use Rattle.world_log.proofs.GivenSteps.{served_given, served_kept, given_written, given_released}
use Rattle.world_log.proofs.laws.given_receipts_are_served.Goals as goal

pub returns : goal.returns
returns c = record { served = served_given; kept = served_kept; written = given_written; released = given_released }

use Rattle.world_log.proofs.Opening.{cold_lent}
use Rattle.world_log.proofs.laws.cold_receipts_are_kept.Goals as goal

pub returns : goal.returns
returns c = cold_lent

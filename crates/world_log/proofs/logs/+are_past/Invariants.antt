use Rattle.std.proofs.Common.{length}
use Rattle.world_log.proofs.logs.+are_past.Given as goal

abbrev pub decreases-are_past : goal.decreases-are_past
decreases-are_past l = length l.stays.now

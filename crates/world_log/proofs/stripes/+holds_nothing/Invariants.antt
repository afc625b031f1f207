use Rattle.std.proofs.Common.{length}
use Rattle.world_log.proofs.stripes.+holds_nothing.Given as goal

abbrev pub decreases-holds_nothing : goal.decreases-holds_nothing
decreases-holds_nothing l = length l.holders.now

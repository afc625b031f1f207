use Rattle.std.proofs.Common.{length}
use Rattle.world.proofs.watched.+position_of.Given as goal

abbrev pub decreases-position_of : goal.decreases-position_of
decreases-position_of l = length l.pairs.now

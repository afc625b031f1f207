use Rattle.std.proofs.Common.{length}
use Rattle.world.proofs.watched.+watch_keys.Given as goal

abbrev pub decreases-watch_keys : goal.decreases-watch_keys
decreases-watch_keys l = length l.keys.now

use Rattle.std.proofs.Common.{length}
use Rattle.world_tests.proofs.tests.+follow.Given as goal

abbrev pub decreases-follow : goal.decreases-follow
decreases-follow g l = length l.text.now

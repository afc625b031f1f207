use Rattle.std.proofs.Common.{length}
use Rattle.session.proofs.counting.+bytes_within.Given as goal

abbrev pub decreases-bytes_within : goal.decreases-bytes_within
decreases-bytes_within l = length l.words.now

use Rattle.std.proofs.Common.{length}
use Rattle.words.proofs.shapes.+any_long.Given as goal

abbrev pub decreases-any_long : goal.decreases-any_long
decreases-any_long l = length l.keys.now

use Rattle.std.proofs.Common.{length}
use Rattle.words.proofs.shapes.+any_key_long.Given as goal

abbrev pub decreases-any_key_long : goal.decreases-any_key_long
decreases-any_key_long l = length l.words.now

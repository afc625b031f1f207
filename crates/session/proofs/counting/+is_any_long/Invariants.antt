use Rattle.std.proofs.Common.{length}
use Rattle.session.proofs.counting.+is_any_long.Given as goal

abbrev pub decreases-is_any_long : goal.decreases-is_any_long
decreases-is_any_long l = length l.keys.now

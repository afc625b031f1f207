use Rattle.std.proofs.Common.{length}
use Rattle.hybrid.proofs.staged.Staged.clear.Given as goal

abbrev pub decreases-loop-read : goal.decreases-loop-read
decreases-loop-read g l = length l.self-inside.reads.items

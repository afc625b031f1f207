use Rattle.std.proofs.Common.{length}
use Rattle.resp_read.proofs.PieceLemmas.{IsLeft}
use Rattle.resp_read.proofs.pieces.Pieces.skip.Given as goal

abbrev pub invariant-loop-left : goal.invariant-loop-left
invariant-loop-left l = IsLeft l.fn.self l.count l.self-inside.oldest l.self-inside.later.items l.self-inside.held l.left

abbrev pub decreases-loop-left : goal.decreases-loop-left
decreases-loop-left l = length l.self-inside.later.items

use Rattle.std.proofs.Common.{arith}
use Rattle.resp_read.proofs.PieceLemmas.{left_here}
use Rattle.resp_read.proofs.pieces.Pieces.skip.Goals as goal

pub returns : goal.returns
returns c =
    rw c.advance.ensures (left_here c.args.self.now c.args.count c.loop-left.self-inside.oldest c.loop-left.self-inside.later.items c.loop-left.self-inside.held c.loop-left.left c.loop-left.invariant (omega arith)).0

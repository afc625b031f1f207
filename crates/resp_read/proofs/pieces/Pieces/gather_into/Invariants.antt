use Rattle.std.proofs.Common.{◌-◌, ◌++◌, take, drop, length}
use Rattle.resp_read.specs.Pieces.{joined}
use Rattle.resp_read.proofs.PieceLemmas.{IsGathering}
use Rattle.resp_read.proofs.pieces.Pieces.gather_into.Given as goal

abbrev pub invariant-loop-piece : goal.invariant-loop-piece
invariant-loop-piece l = IsGathering (l.fn.gathered.items ++ take l.count (drop l.from (joined l.self))) l.self-inside.later.items l.index l.gathered.items l.gathered.capacity l.wanted.from l.wanted.count

abbrev pub decreases-loop-piece : goal.decreases-loop-piece
decreases-loop-piece l = length l.self-inside.later.items - l.index

use Rattle.std.proofs.Common.{length}
use Rattle.resp_read.specs.Pieces.{joined}
use Rattle.resp_read.specs.Taking.{GoesOn}
use Rattle.resp_read.proofs.reader.Reader.next_by_steps.Given as goal

abbrev pub invariant-loop-given : goal.invariant-loop-given
invariant-loop-given l = GoesOn l.initial.self l.self

abbrev pub decreases-loop-given : goal.decreases-loop-given
decreases-loop-given l = length (joined l.self.pieces)

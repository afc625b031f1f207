use Rattle.resp_read.specs.Pieces.{joined}
use Rattle.resp_read.proofs.ReaderLemmas.{HasLooked}
use Rattle.resp_read.proofs.look.look_at_rest.Given as goal

abbrev pub invariant-loop : goal.invariant-loop
invariant-loop l = HasLooked (joined l.pieces) l.initial.at l.initial.size l.counter l.at l.size

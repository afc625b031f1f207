use Rattle.std.proofs.Common.{ap}
use Rattle.watch.specs.Marked.{marks_of}
use Rattle.watch.proofs.Changes.{said_there}
use Rattle.watch.proofs.Marks.new.Goals as goal

pub returns : goal.returns
unfolding marks_of
returns c = λ key s. ap (λ entries. said_there entries key s) c.new.ensures.empty

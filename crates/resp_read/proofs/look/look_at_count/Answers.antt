use Rattle.resp_read.specs.Pieces.{joined}
use Rattle.resp_read.proofs.LookLemmas.{count_fault}
use Rattle.resp_read.proofs.look.look_at_count.Goals as goal

pub returns-in-Faulty : goal.returns-in-Faulty
returns-in-Faulty c = count_fault (joined c.args.pieces.now) c.oldest-oldest.result.now c.oldest-oldest.ensures.first.0 c.in-Faulty.fault c.oldest-oldest.ensures.first.1 c.in-Faulty.ensures

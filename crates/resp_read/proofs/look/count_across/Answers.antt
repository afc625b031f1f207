use Rattle.std.proofs.Common.{◌∙◌, arith, length}
use Rattle.resp_read.specs.Pieces.{joined}
use Rattle.resp_read.proofs.LookLemmas.{count_in_front, all_or}
use Rattle.resp_read.proofs.look.count_across.Goals as goal

pub returns : goal.returns
returns c =
    count_in_front (joined c.args.pieces.now) c.as_slice.result.now c.least.result c.count_line.result (c.as_slice.ensures ∙ c.in-Ok.ensures.bytes) (omega arith) (all_or (length (joined c.args.pieces.now)) c.least.ensures.one c.held.ensures) c.count_line.ensures

use Rattle.std.proofs.lemmas.Grind.{common_steps}
use Rattle.std.proofs.Common.{arith}
use Rattle.resp_read.proofs.Steps.{data_part}
use Rattle.resp_read.proofs.DataLemmas.{data_without_cr, data_ends_at_cr, data_without_lf}
use Rattle.resp_read.proofs.lines.data_end.Goals as goal

pub returns-then-bytes-length : goal.returns-then-bytes-length
returns-then-bytes-length c = (omega arith, λ left size. data_part left size c.args.length c.args.bytes.now c.if-bytes-length.true)

pub returns-then-bytes-length-ne13 : goal.returns-then-bytes-length-ne13
returns-then-bytes-length-ne13 c = λ left size. data_without_cr left size c.args.length c.args.bytes.now c.if-bytes-length.false c.if-bytes-length-ne13.true

pub returns-then-bytes-length-2 : goal.returns-then-bytes-length-2
returns-then-bytes-length-2 c = (omega arith, λ left size. data_ends_at_cr left size c.args.length c.args.bytes.now c.if-bytes-length-ne13.false c.if-bytes-length-2.true)

pub returns-then-bytes-length-ne10 : goal.returns-then-bytes-length-ne10
returns-then-bytes-length-ne10 c =
    λ left size. data_without_lf left size c.args.length c.args.bytes.now c.if-bytes-length-ne13.false (omega arith) c.if-bytes-length-ne10.true

pub returns : goal.returns
returns c = grind (arith, common_steps)

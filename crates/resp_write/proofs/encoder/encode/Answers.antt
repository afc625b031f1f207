use Rattle.std.proofs.Common.{rules}
use Rattle.resp_write.proofs.encoder.encode.Goals as goal

pub returns-in_err-reserve-clause-err : goal.returns-in_err-reserve-clause-err
returns-in_err-reserve-clause-err c = search rules

pub returns-clause-ok : goal.returns-clause-ok
returns-clause-ok c = search rules

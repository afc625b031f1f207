use Rattle.std.proofs.Common.{rules}
use Rattle.resp_write.proofs.encoder.send.Goals as goal

pub returns-in-Err-clause-sent : goal.returns-in-Err-clause-sent
returns-in-Err-clause-sent g c = search rules

pub returns-in-Err-clause-told : goal.returns-in-Err-clause-told
returns-in-Err-clause-told g c = search rules

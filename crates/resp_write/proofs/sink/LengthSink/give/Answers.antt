use Rattle.std.proofs.Common.{rules}
use Rattle.resp_write.proofs.sink.LengthSink.give.Goals as goal

pub returns-in-Some : goal.returns-in-Some
returns-in-Some c = search rules

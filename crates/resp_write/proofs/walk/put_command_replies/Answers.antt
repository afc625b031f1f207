use Rattle.std.proofs.Common.{arith}
use Rattle.words.specs.Encoding.{command_reply_encoding}
use Rattle.resp_write.proofs.Given.{stops_within}
use Rattle.resp_write.proofs.walk.put_command_replies.Goals as goal

pub returns-in-Err : goal.returns-in-Err
returns-in-Err g c =
    stops_within g.S.Sink.takes g.S.Sink.stops g.met.S.Sink.stops_more g.met.S.Sink.stops_then command_reply_encoding _ _ _ _ c.loop-reply.reply-index c.reply-item.result (omega arith) c.loop-reply.invariant (rw (← c.reply-item.is) c.in-Err.ensures)

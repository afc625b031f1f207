use Rattle.std.proofs.Common.{take}
use Rattle.std.specs.List.{flat_map}
use Rattle.words.specs.Encoding.{command_reply_encoding}
use Rattle.resp_write.proofs.walk.put_command_replies.Given as goal

abbrev pub invariant-loop-reply : goal.invariant-loop-reply
invariant-loop-reply g l = g.S.Sink.takes l.initial.out l.out (flat_map command_reply_encoding (take l.reply-index l.replies))

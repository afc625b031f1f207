use Rattle.std.proofs.Common.{◌+◌, ◌≤◌, length}
use Rattle.std.specs.List.{flat_map}
use Rattle.words.specs.Encoding.{command_reply_encoding}
use Rattle.resp_write.proofs.bound.all_fit.Given as goal

abbrev pub invariant-loop-first : goal.invariant-loop-first
invariant-loop-first l = l.left + length (flat_map command_reply_encoding l.replies) ≤ l.room + length (flat_map command_reply_encoding l.rest)

abbrev pub decreases-loop-first : goal.decreases-loop-first
decreases-loop-first l = length l.rest

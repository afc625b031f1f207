use Rattle.std.proofs.Common.{arith}
use Rattle.sockets.proofs.pausing.pause.Goals as goal

pub returns-then-not-is_behind : goal.returns-then-not-is_behind
returns-then-not-is_behind g c = record { each = omega arith; most = omega arith; stops = omega arith }

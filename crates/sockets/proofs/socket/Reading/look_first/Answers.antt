use Rattle.sockets.proofs.Asked.{looked-none}
use Rattle.sockets.proofs.socket.Reading.look_first.Goals.{else-is_none-via-then-is_none+then-not-is_empty+else-takes_a_look}
use Rattle.sockets.proofs.socket.Reading.look_first.Goals.{else-is_none-via-then-is_none+else-not-is_empty}
use Rattle.sockets.proofs.socket.Reading.look_first.Goals.{else-is_none-via-else-is_none}
use Rattle.sockets.proofs.socket.Reading.look_first.Goals as goal

pub returns-else-is_none-clause-calls : goal.returns-else-is_none-clause-calls
returns-else-is_none-clause-calls g c =
    elim c.else-is_none.branch [
      | else-is_none-via-then-is_none+then-not-is_empty+else-takes_a_look w ↦
          rw (w.self-is, w.takes_a_look.ensures.failed, w.takes_a_look.ensures.line) (looked-none _ _ _)
      | else-is_none-via-then-is_none+else-not-is_empty w ↦ rw w.self-is (looked-none _ _ _)
      | else-is_none-via-else-is_none w ↦ rw w.self-is (looked-none _ _ _)
    ]

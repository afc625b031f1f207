use Rattle.std.proofs.Common.{rules}
use Rattle.sockets.proofs.Asked.{is_none, looked-none, looked-refused, looked-end, looked-some, looked-failed}
use Rattle.sockets.proofs.socket.ReadingReadReady.read_ready.Goals as goal

pub returns-then-is_behind-clause-calls : goal.returns-then-is_behind-clause-calls
returns-then-is_behind-clause-calls g c = looked-none _ _ _

pub returns-then-is_err-clause-calls : goal.returns-then-is_err-clause-calls
returns-then-is_err-clause-calls g c =
    looked-refused _ _ _ _ _ (is_none _ c.if-is_some.ensures) c.if-is_err.ensures.value c.set_waiting.ensures.calls

pub returns-in-Ok-eq0-clause-calls : goal.returns-in-Ok-eq0-clause-calls
returns-in-Ok-eq0-clause-calls g c =
    looked-end _ _ _ _ _ _ _ (is_none _ c.if-is_some.ensures) c.if-is_err.ensures.value c.set_waiting.ensures.calls c.read.ensures.calls
    (rw c.in-Ok-eq0.is c.in-Ok-eq0.field-0-test)

pub returns-in-Ok-clause-calls : goal.returns-in-Ok-clause-calls
returns-in-Ok-clause-calls g c =
    looked-some _ _ _ _ _ _ _ (is_none _ c.if-is_some.ensures) (search rules) c.if-is_err.ensures.value c.set_waiting.ensures.calls
    c.in-Ok.ensures.calls

pub returns-in-Err-clause-calls : goal.returns-in-Err-clause-calls
returns-in-Err-clause-calls g c =
    rw c.note.ensures.line
    (looked-failed _ _ _ _ _ _ _ _ (is_none _ c.if-is_some.ensures) c.if-is_err.ensures.value c.set_waiting.ensures.calls
    c.in-Err.ensures.calls
    (rw c.kind.ensures at c.note.ensures.kept))

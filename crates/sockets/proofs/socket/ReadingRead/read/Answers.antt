use Rattle.sockets.proofs.Asked.{read-along, read-some}
use Rattle.sockets.proofs.socket.ReadingRead.read.Goals as goal

pub returns-in-None-clause-calls : goal.returns-in-None-clause-calls
returns-in-None-clause-calls g c = read-along _ _ _ _ _ _ _ _ c.wait.auto.buffer c.in-None.ensures.calls c.wait.ensures.calls

pub returns-in-Some-clause-calls : goal.returns-in-Some-clause-calls
returns-in-Some-clause-calls g c = read-some _ _ _ _ _ _ c.in-Some.ensures.calls

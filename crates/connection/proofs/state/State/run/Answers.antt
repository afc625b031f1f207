use Rattle.std.proofs.Common.{ap}
use Rattle.session.specs.Standings.{wait_of}
use Rattle.connection.specs.Clients.{stage_of}
use Rattle.connection.proofs.state.State.run.Goals as goal

pub returns : goal.returns
returns c = λ words is. (
  wait_of c.exec-call.result.1,
  ap stage_of c.put.ensures,
  rw (is, c.take_queueing.ensures.session) c.exec-call.ensures.0,
  c.exec-call.ensures.1,
)

use Rattle.std.proofs.Common.{ap}
use Rattle.session.specs.Standings.{queueing_of}
use Rattle.connection.specs.Clients.{stage_of}
use Rattle.connection.proofs.state.State.begin.Goals as goal

pub returns : goal.returns
returns c = λ words is. (
  queueing_of c.begin.result,
  ap stage_of c.put.ensures,
  rw (c.take_idle-session.ensures.session, is) (c.line.ensures, c.begin.ensures),
)

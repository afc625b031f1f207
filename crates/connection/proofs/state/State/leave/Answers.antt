use Rattle.connection.specs.Clients.{stage_of}
use Rattle.connection.proofs.state.State.leave.Goals as goal

pub returns : goal.returns
returns c = λ words is.
    let out = c.take_queueing-session.ensures.session in
    c.settle.ensures (stage_of c.args.self.now) words (rw out (c.leave.ensures _ (rw out at is)))

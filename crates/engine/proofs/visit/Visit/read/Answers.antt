use Rattle.engine.proofs.Later.{serves_all}
use Rattle.engine.proofs.visit.Visit.read.Goals as goal

pub returns-clause-right : goal.returns-clause-right
returns-clause-right g c = λ t.
    c.read_all.ensures.right (serves_all g.D.Device.serves g.R.Shows.identity c.args.device.now c.args.receipts (g.met.D.Device.steady t c.args.device.now)) (c.requires.right t)

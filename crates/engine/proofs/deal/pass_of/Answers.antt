use Rattle.std.proofs.Common.{refl}
use Rattle.engine.proofs.deal.pass_of.Goals as goal

pub returns-clause-hands : goal.returns-clause-hands
returns-clause-hands g c = (_, refl, refl, c.new.ensures)

use Rattle.plans.proofs.Keys.{taken_there}
use Rattle.plans.proofs.laws.stripes_hold_keys.Goals as goal

pub returns : goal.returns
returns g c = λ n parts stripes keys is has. taken_there n parts stripes keys is has

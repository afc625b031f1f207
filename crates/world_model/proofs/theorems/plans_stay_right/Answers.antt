use Rattle.world_model.proofs.Planning.{plan_stays}
use Rattle.world_model.proofs.theorems.plans_stay_right.Goals as goal

pub returns : goal.returns
returns c = λ before event after d call asked reply writes turns other sound planned.
    plan_stays d call asked reply writes c.laws.ensures.local before event after turns other sound planned

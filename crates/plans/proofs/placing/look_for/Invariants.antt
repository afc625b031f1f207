use Rattle.std.proofs.Common.{◌-◌, length}
use Rattle.std.specs.Prelude.{⊤}
use Rattle.plans.proofs.placing.look_for.Given as goal

abbrev pub invariant-loop-found : goal.invariant-loop-found
invariant-loop-found l = ⊤

abbrev pub decreases-loop-found : goal.decreases-loop-found
decreases-loop-found l = length l.looked - l.at

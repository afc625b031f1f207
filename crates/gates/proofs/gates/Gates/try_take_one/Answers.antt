use Rattle.std.proofs.Common.{subst, ℕ, List, ◌<◌}
use Rattle.gates.specs.Sets.{times}
use Rattle.gates.specs.Passes.{known, WasBusy}
use Rattle.gates.proofs.Bits.{times_one}
use Rattle.gates.proofs.gates.Gates.try_take_one.Goals as goal

pub returns-in-Err-clause-busy : goal.returns-in-Err-clause-busy
returns-in-Err-clause-busy g c =
    let only = times_one c.in-Err._stripe c.args.stripe (subst (λ (l : List ℕ). 0 < times c.in-Err._stripe l) c.set_of-wanted.ensures c.in-Err.ensures.busy.1) in
    subst (λ (stripe : ℕ). WasBusy stripe (known c.args.pass.now) (known c.try_take.new.pass)) only c.in-Err.ensures.busy.2

use Rattle.store_tests.proofs.Fits.{taken_fits}
use Rattle.store_tests.proofs.passes.busy_beside.Goals as goal

pub give-requires-clause-fit : goal.give-requires-clause-fit
give-requires-clause-fit g c = taken_fits c.args.gates.now c.args.taken.now _ c.take-held.result c.take-held.ensures

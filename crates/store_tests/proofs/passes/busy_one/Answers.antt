use Rattle.store_tests.proofs.Fits.{taken_fits}
use Rattle.store_tests.proofs.passes.busy_one.Goals as goal

pub give-requires-clause-fit : goal.give-requires-clause-fit
give-requires-clause-fit c = taken_fits c.args.gates.now c.args.stripes.now _ c.hold.result (c.hold.ensures.taken _ c.in-Ok.ensures.ok)

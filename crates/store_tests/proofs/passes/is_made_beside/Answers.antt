use Rattle.store_tests.proofs.Fits.{taken_fits}
use Rattle.store_tests.proofs.passes.is_made_beside.Goals as goal

pub give-requires-clause-fit : goal.give-requires-clause-fit
give-requires-clause-fit g c = taken_fits c.args.gates.now c.with.result _ c.take-held.result c.take-held.ensures

use Rattle.store_tests.proofs.Fits.{taken_fits, committed_fits}
use Rattle.store_tests.proofs.passes.commit_one.Goals as goal

pub give-requires-clause-fit : goal.give-requires-clause-fit
give-requires-clause-fit g c =
    let start = c.take-held.result in
    committed_fits start c.commit.new.self c.commit.result c.commit.ensures (taken_fits c.args.gates.now c.args.stripes.now _ start c.take-held.ensures)

use Rattle.store_tests.proofs.Fits.{taken_fits, replaced_fits}
use Rattle.store_tests.proofs.passes.exchange.Goals as goal

pub give-requires-clause-fit : goal.give-requires-clause-fit
give-requires-clause-fit g c =
    let start = c.take-held.result in
    let swap = c.replace-old in
    replaced_fits start swap.new.parts 12 swap.result swap.ensures.keeps swap.ensures.old swap.ensures.others (taken_fits c.args.gates.now c.with.result _ start c.take-held.ensures)

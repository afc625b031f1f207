use Rattle.std.proofs.Common.{length, sym, ltb-true}
use Rattle.plans.proofs.Spots.{were_get}
use Rattle.plans.proofs.placing.look_for.Goals as goal

pub returns-then-eq-clause-among : goal.returns-then-eq-clause-among
returns-then-eq-clause-among c = λ n logs were.
    were_get n logs c.args.looked.now c.loop-found.at c.in-Some.found.now _ (ltb-true c.loop-found.at (length c.args.looked.now) (sym c.in-Some.ensures.lookup.0)) c.in-Some.ensures.lookup.1 were

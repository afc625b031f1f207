use Rattle.std.proofs.Common.{◌∙◌, ap}
use Rattle.gates.specs.Sets.{part_at}
use Rattle.store_tests.proofs.Visiting.{fit_held}
use Rattle.store_tests.proofs.visits.evict_one.Goals as goal

pub give-requires-clause-told : goal.give-requires-clause-told
give-requires-clause-told g c =
    let s = c.in-Done.ensures.stepped in
    let lent = c.take-held.ensures.lent c.args.stripe s.old s.was in
    record {
      part = s.new;
      there = s.is;
      is = ((lent.0, s.old), ap (λ took. part_at took c.args.stripe) c.evict_at-outcome.ensures.keeps.taken ∙ lent.1, s.says);
    }

pub give-requires-clause-fit : goal.give-requires-clause-fit
give-requires-clause-fit g c =
    fit_held g.T.Part.meaning c.args.gates.now c.args.stripe _ c.take-held.result c.evict_at-outcome.new.parts c.take-held.ensures.gates_are c.evict_at-outcome.ensures.keeps c.evict_at-outcome.ensures.stepped c.take-held.ensures.fit

pub give-requires-in-Idle-clause-fit : goal.give-requires-in-Idle-clause-fit
give-requires-in-Idle-clause-fit g c =
    fit_held g.T.Part.meaning c.args.gates.now c.args.stripe _ c.take-held.result c.evict_at-outcome.new.parts c.take-held.ensures.gates_are c.evict_at-outcome.ensures.keeps c.evict_at-outcome.ensures.stepped c.take-held.ensures.fit

pub give-requires-in-Full-clause-fit : goal.give-requires-in-Full-clause-fit
give-requires-in-Full-clause-fit g c =
    fit_held g.T.Part.meaning c.args.gates.now c.args.stripe _ c.take-held.result c.evict_at-outcome.new.parts c.take-held.ensures.gates_are c.evict_at-outcome.ensures.keeps c.evict_at-outcome.ensures.stepped c.take-held.ensures.fit

pub give-requires-in-Idle-clause-told : goal.give-requires-in-Idle-clause-told
give-requires-in-Idle-clause-told g c =
    let s = c.in-Idle.ensures.stepped in
    let lent = c.take-held.ensures.lent c.args.stripe s.old s.was in
    record {
      part = s.new;
      there = s.is;
      is = (s.says, (lent.0, s.old), ap (λ took. part_at took c.args.stripe) c.evict_at-outcome.ensures.keeps.taken ∙ lent.1, tt);
    }

pub give-requires-in-Full-clause-told : goal.give-requires-in-Full-clause-told
give-requires-in-Full-clause-told g c =
    let s = c.in-Full.ensures.stepped in
    let lent = c.take-held.ensures.lent c.args.stripe s.old s.was in
    record {
      part = s.new;
      there = s.is;
      is = (s.says.0, (lent.0, s.old), ap (λ took. part_at took c.args.stripe) c.evict_at-outcome.ensures.keeps.taken ∙ lent.1, s.says.1);
    }

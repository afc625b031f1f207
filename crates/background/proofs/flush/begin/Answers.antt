use Rattle.std.proofs.Common.{◌∙◌, ap}
use Rattle.gates.specs.Sets.{part_at}
use Rattle.shards.specs.Shards.{shard_meaning}
use Rattle.background.proofs.Settling.{heard_outside}
use Rattle.background.proofs.Visiting.{fit_held}
use Rattle.background.proofs.flush.begin.Goals as goal

pub give-requires-clause-told : goal.give-requires-clause-told
give-requires-clause-told g c =
    let s = c.in-Idle.ensures.stepped in
    let lent = c.take_one-held.ensures.lent c.args.at.now.stripe s.old s.was in
    record {
      part = s.new;
      there = s.is;
      is = (s.says.0, (lent.0, s.old), ap (λ took. part_at took c.args.at.now.stripe) c.begin_at.ensures.still.kept.taken ∙ lent.1, tt);
    }

pub give-requires-in-Full-clause-told : goal.give-requires-in-Full-clause-told
give-requires-in-Full-clause-told g c =
    let s = c.in-Full.ensures.stepped in
    let lent = c.take_one-held.ensures.lent c.args.at.now.stripe s.old s.was in
    record {
      part = s.new;
      there = s.is;
      is = (s.says.0.full, (lent.0, s.old), ap (λ took. part_at took c.args.at.now.stripe) c.begin_at.ensures.still.kept.taken ∙ lent.1, s.says.0.spent);
    }

pub give-requires-clause-fit : goal.give-requires-clause-fit
give-requires-clause-fit g c =
    fit_held (shard_meaning g.R.Shows.is_steady) c.args.at.now.gates.now c.args.at.now.stripe _ c.take_one-held.result c.begin_at.new.parts c.take_one-held.ensures.gates_are c.begin_at.ensures.still.kept c.begin_at.ensures.stepped c.take_one-held.ensures.fit

pub give-requires-in-Full-clause-fit : goal.give-requires-in-Full-clause-fit
give-requires-in-Full-clause-fit g c =
    fit_held (shard_meaning g.R.Shows.is_steady) c.args.at.now.gates.now c.args.at.now.stripe _ c.take_one-held.result c.begin_at.new.parts c.take_one-held.ensures.gates_are c.begin_at.ensures.still.kept c.begin_at.ensures.stepped c.take_one-held.ensures.fit

pub give-requires-in-Sealed-clause-fit : goal.give-requires-in-Sealed-clause-fit
give-requires-in-Sealed-clause-fit g c =
    fit_held (shard_meaning g.R.Shows.is_steady) c.args.at.now.gates.now c.args.at.now.stripe _ c.take_one-held.result c.begin_at.new.parts c.take_one-held.ensures.gates_are c.begin_at.ensures.still.kept c.begin_at.ensures.stepped c.take_one-held.ensures.fit

pub returns-in-Idle-clause-seat : goal.returns-in-Idle-clause-seat
returns-in-Idle-clause-seat g c = heard_outside c.args.at.now.epochs.now c.args.seat.now c.begin_at.new.seat c.begin_at.ensures.seat

pub returns-in-Full-clause-seat : goal.returns-in-Full-clause-seat
returns-in-Full-clause-seat g c = heard_outside c.args.at.now.epochs.now c.args.seat.now c.begin_at.new.seat c.begin_at.ensures.seat

pub returns-in-Sealed-clause-seat : goal.returns-in-Sealed-clause-seat
returns-in-Sealed-clause-seat g c = heard_outside c.args.at.now.epochs.now c.args.seat.now c.begin_at.new.seat c.begin_at.ensures.seat

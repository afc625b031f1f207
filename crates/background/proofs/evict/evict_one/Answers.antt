use Rattle.std.proofs.Common.{◌∙◌, ap}
use Rattle.gates.specs.Sets.{part_at}
use Rattle.shards.specs.Shards.{shard_meaning}
use Rattle.background.proofs.Visiting.{fit_held}
use Rattle.background.proofs.evict.evict_one.Goals as goal

pub give-requires-clause-told : goal.give-requires-clause-told
give-requires-clause-told g c =
    let s = c.if-evict_at.ensures.stepped in
    let lent = c.take_one-held.ensures.lent c.args.stripe s.old s.was in
    record {
      part = s.new;
      there = s.is;
      is = ((lent.0, s.old), ap (λ took. part_at took c.args.stripe) c.evict_at.ensures.still.kept.taken ∙ lent.1, s.says.step);
    }

pub give-requires-clause-fit : goal.give-requires-clause-fit
give-requires-clause-fit g c =
    fit_held (shard_meaning g.R.Shows.is_steady) c.args.gates.now c.args.stripe _ c.take_one-held.result c.evict_at.new.parts c.take_one-held.ensures.gates_are c.evict_at.ensures.still.kept c.evict_at.ensures.stepped c.take_one-held.ensures.fit

pub give-requires-else-evict_at-clause-fit : goal.give-requires-else-evict_at-clause-fit
give-requires-else-evict_at-clause-fit g c =
    fit_held (shard_meaning g.R.Shows.is_steady) c.args.gates.now c.args.stripe _ c.take_one-held.result c.evict_at.new.parts c.take_one-held.ensures.gates_are c.evict_at.ensures.still.kept c.evict_at.ensures.stepped c.take_one-held.ensures.fit

pub give-requires-else-evict_at-clause-told : goal.give-requires-else-evict_at-clause-told
give-requires-else-evict_at-clause-told g c =
    let s = c.if-evict_at.ensures.stepped in
    let lent = c.take_one-held.ensures.lent c.args.stripe s.old s.was in
    record {
      part = s.new;
      there = s.is;
      is = (s.says.idle, (lent.0, s.old), ap (λ took. part_at took c.args.stripe) c.evict_at.ensures.still.kept.taken ∙ lent.1, tt);
    }

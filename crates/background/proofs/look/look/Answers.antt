use Rattle.shards.specs.Shards.{shard_meaning}
use Rattle.background.proofs.Visiting.{fit_held}
use Rattle.background.proofs.look.look.Goals as goal

pub give-requires-clause-fit : goal.give-requires-clause-fit
give-requires-clause-fit g c =
    fit_held (shard_meaning g.R.Shows.is_steady) c.args.gates.now c.args.stripe _ c.take_one-held.result c.look_at-seen.new.parts c.take_one-held.ensures.gates_are c.look_at-seen.ensures.still.kept c.look_at-seen.ensures.stepped c.take_one-held.ensures.fit

pub give-requires-clause-told : goal.give-requires-clause-told
give-requires-clause-told g c =
    let s = c.look_at-seen.ensures.stepped in
    record { part = s.new; there = s.is; is = s.says.seen }

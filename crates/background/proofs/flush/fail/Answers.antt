use Rattle.shards.specs.Shards.{shard_meaning}
use Rattle.background.proofs.Visiting.{fit_held}
use Rattle.background.proofs.flush.fail.Goals as goal

pub give-requires-clause-fit : goal.give-requires-clause-fit
give-requires-clause-fit g c =
    fit_held (shard_meaning g.R.Shows.is_steady) c.args.at.now.gates.now c.args.at.now.stripe _ c.take_one-held.result c.fail_at.new.parts c.take_one-held.ensures.gates_are c.fail_at.ensures.still.kept c.fail_at.ensures.stepped c.take_one-held.ensures.fit

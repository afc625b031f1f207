use Rattle.shards.proofs.Counts.{released_step}
use Rattle.shards.proofs.shard.Shard.release.Goals as goal

pub returns-clause-done : goal.returns-clause-done
returns-clause-done g c = λ refused. released_step _ _ _ _ _ _ _ _ _ _ c.is_counted.ensures c.release.ensures.released

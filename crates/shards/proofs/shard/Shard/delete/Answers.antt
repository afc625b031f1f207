use Rattle.shards.proofs.shard.Shard.delete.Goals as goal

pub returns-clause-waits : goal.returns-clause-waits
returns-clause-waits g c = c.install_one.ensures.waits

use Rattle.shards.proofs.shard.Shard.append.Goals as goal

pub returns-clause-waits : goal.returns-clause-waits
returns-clause-waits g c = c.append_one.ensures.waits

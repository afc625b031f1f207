use Rattle.std.proofs.Common.{ap}
use Rattle.shards.specs.declared.shard.Shard.{Shard}
use Rattle.shards.specs.Shards.{shard_counted}
use Rattle.shards.proofs.Refreed.{drain_refused, not_drained}
use Rattle.shards.proofs.shard.Shard.drains.Goals as goal

pub returns-in-Nothing-clause-left : goal.returns-in-Nothing-clause-left
returns-in-Nothing-clause-left g c = not_drained (shard_counted c.args.self.now) (shard_counted c.drain.new.self) (ap (λ (s : Shard _). shard_counted s) c.in-Nothing.ensures.drained.1) c.in-Nothing.ensures.drained.0

pub returns-in-Refused-clause-left : goal.returns-in-Refused-clause-left
returns-in-Refused-clause-left g c = drain_refused (shard_counted c.args.self.now) (shard_counted c.drain.new.self) c.in-Refused.ensures.drained c.in-Refused.ensures.more

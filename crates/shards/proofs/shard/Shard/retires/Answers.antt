use Rattle.epoch.specs.Seats.{known}
use Rattle.std.proofs.Common.{ap}
use Rattle.shards.specs.Shards.{shard_counted}
use Rattle.shards.specs.declared.shard.Shard.{Shard}
use Rattle.shards.proofs.Refreed.{not_retired, retire_refused, tried_once, tried_past}
use Rattle.shards.proofs.shard.Shard.retires.Goals as goal

pub returns-in-Done-clause-tried : goal.returns-in-Done-clause-tried
returns-in-Done-clause-tried g c = tried_past c.in-Done.ensures.told.0 (known c.args.seat.now) (known c.retire.new.seat) c.in-Done.ensures.told.1

pub returns-in-Refused-clause-tried : goal.returns-in-Refused-clause-tried
returns-in-Refused-clause-tried g c = tried_once (known c.args.seat.now) (known c.retire.new.seat) c.in-Refused.ensures.told

pub returns-in-Nothing-clause-left : goal.returns-in-Nothing-clause-left
returns-in-Nothing-clause-left g c = not_retired (shard_counted c.args.self.now) (shard_counted c.retire.new.self) (ap (λ (s : Shard _). shard_counted s) c.in-Nothing.ensures.retired.1) c.in-Nothing.ensures.retired.0

pub returns-in-Refused-clause-left : goal.returns-in-Refused-clause-left
returns-in-Refused-clause-left g c = retire_refused (shard_counted c.args.self.now) (shard_counted c.retire.new.self) (ap (λ (s : Shard _). shard_counted s) c.in-Refused.ensures.retired)

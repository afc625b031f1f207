use Rattle.shards.specs.Shards.{shard_counted}
use Rattle.shards.proofs.Freed.{freed_steps}
use Rattle.shards.proofs.shard.Shard.free_places.Goals as goal

pub returns-clause-freed : goal.returns-clause-freed
returns-clause-freed g c =
    let r = c.release_all-released.ensures.released in
    freed_steps (shard_counted c.args.self.now) c.retire_all-retire.new.log c.drain_all-drain.new.log c.release_all-released.new.log r.count c.retire_all-retire.result c.drain_all-drain.result
    c.release_all-released.result c.retire_all-retire.ensures.retired c.drain_all-drain.ensures.drained r.released r.any r.none c.release_all-released.ensures.all c.retire_all-retire.ensures.all
    c.drain_all-drain.ensures.all

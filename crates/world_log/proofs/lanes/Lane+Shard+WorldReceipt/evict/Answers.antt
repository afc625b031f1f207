use Rattle.std.proofs.Common.{sym, subst}
use Rattle.shards.specs.Counted.{Counted}
use Rattle.world_log.specs.Beside.{beside_of}
use Rattle.world_log.specs.Given.{AreAllGiven}
use Rattle.world_log.proofs.lanes.Lane+Shard+WorldReceipt.evict.Goals as goal

pub returns-clause-given : goal.returns-clause-given
returns-clause-given c device given =
    c.evict-done.ensures.given device
    (subst (λ (x : Counted). AreAllGiven device x.log (beside_of x c.args.self.now.queues)) (sym c.counted_mut.ensures.log) given)

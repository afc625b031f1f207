use Rattle.std.proofs.Common.{sym, subst}
use Rattle.shards.specs.Counted.{Counted}
use Rattle.world_log.specs.Cleaning.{AreServed}
use Rattle.world_log.proofs.lanes.Lane+Shard+WorldReceipt.unlink.Goals as goal

pub unlink_oldest-requires-clause-served : goal.unlink_oldest-requires-clause-served
unlink_oldest-requires-clause-served c = subst (λ (x : Counted). AreServed x.log c.args.device.now) (sym c.counted_mut.ensures.log) c.requires.served

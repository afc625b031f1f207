use Rattle.std.proofs.Common.{◌≡◌}
use Rattle.hybrid.specs.Reading.{unread}
use Rattle.hybrid.specs.Staging.{AreRight}
use Rattle.shards.specs.Shards.{shard_log}
use Rattle.shards.proofs.shard.Shard.unlink.Given as goal

abbrev pub invariant-loop-number : goal.invariant-loop-number
invariant-loop-number g l = record {
  same : l.self ≡ l.fn.self;
  right : g.R.Shows.is_steady → AreRight l.fn.staged → AreRight l.staged;
  releases : g.D.Device.releases l.device ≡ g.D.Device.releases l.fn.device;
  failures : g.D.Device.failures l.device ≡ g.D.Device.failures l.fn.device;
}

abbrev pub decreases-loop-number : goal.decreases-loop-number
decreases-loop-number g l = unread (shard_log l.self) l.staged

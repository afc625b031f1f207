use Rattle.std.proofs.Common.{◌≡◌, length}
use Rattle.shards.specs.Freeing.{ReleasesAll}
use Rattle.shards.proofs.freeing.release_all.Given as goal

abbrev pub invariant-all : goal.invariant-all
invariant-all g l = record {
  released : ReleasesAll g.D.Device.releases l.any (l.fn.log, l.fn.device) (l.log, l.device);
  same : g.D.Device.failures l.device ≡ g.D.Device.failures l.fn.device;
  writes : g.D.Device.writes l.device ≡ g.D.Device.writes l.fn.device;
}

abbrev pub decreases-all : goal.decreases-all
decreases-all g l = length l.log.drained

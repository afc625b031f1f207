use Rattle.std.proofs.Common.{ap, arith}
use Rattle.hybrid.specs.HybridLog.{count_kept}
use Rattle.shards.proofs.Counts.{dropped_same}
use Rattle.shards.proofs.counted.CountedLog.drop_oldest.Goals as goal

pub invariant_of-self : goal.invariant_of-self
invariant_of-self g c =
    let d = dropped_same c.drop_oldest.result c.self.inside.stripe c.drop_oldest.new.self c.drop_oldest.ensures.dropped c.drop_oldest.ensures.kept in
    (omega (arith, ap count_kept d.0, d.1, c.self.invariant.0), omega (arith, d.2, c.self.invariant.1), omega (arith, d.2, c.self.invariant.2), omega (arith, d.2, c.self.invariant.3))

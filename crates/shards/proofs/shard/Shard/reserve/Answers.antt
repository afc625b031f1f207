use Rattle.std.proofs.Common.{refl, ap}
use Rattle.hybrid.specs.Log.{Log, contents}
use Rattle.shards.proofs.shard.Shard.reserve.Goals as goal

pub returns-clause-same : goal.returns-clause-same
returns-clause-same g c =
    let same = c.reserve.ensures.same in
    record { store = ap (λ (l : Log). contents l) same.records; marks = refl; waits = same.waits; records = same.records; tail = same.tail }

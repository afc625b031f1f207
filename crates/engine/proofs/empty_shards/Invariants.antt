use Rattle.std.proofs.Common.{◌≡◌, vec_len}
use Rattle.std.specs.List.{All}
use Rattle.gates.specs.Plays.{AreEmpty}
use Rattle.shards.specs.Logs.{counted_alone, log_by}
use Rattle.shards.specs.Shards.{shard_counted, shard_meaning}
use Rattle.engine.proofs.empty_shards.Given as goal

abbrev pub invariant-loop : goal.invariant-loop
invariant-loop g l = (vec_len l.shards ≡ l.counter) × AreEmpty (shard_meaning g.R.Shows.is_steady) l.shards.items
    × All (λ shard. shard_counted shard ≡ counted_alone (log_by l.limits)) l.shards.items

use Rattle.std.proofs.Common.{◌<◌, ℕ}
use Rattle.world_log.specs.Stripes.{IsKeeper}
use Rattle.world_log.proofs.stripes.Stripes+Shard+WorldReceipt.keeper_of.Given as goal

abbrev pub invariant-loop-stripe : goal.invariant-loop-stripe
invariant-loop-stripe l = (i : ℕ) → i < l.stripe → IsKeeper l.self l.client l.place i → ⊥

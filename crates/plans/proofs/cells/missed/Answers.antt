use Rattle.std.proofs.Common.{List, subst}
use Rattle.hybrid.specs.HybridLog.{Kept}
use Rattle.shards.specs.Shards.{shard_log}
use Rattle.plans.specs.Finding.{JoinsWanted}
use Rattle.plans.proofs.cells.missed.Goals as goal

pub returns-in-Ok : goal.returns-in-Ok
returns-in-Ok g c = subst (λ (before : List Kept). JoinsWanted (shard_log c.args.part.now) c.args.staged.now c.args.number before c.wanted.new.cold) c.new-cold.ensures c.in-Ok.ensures.ok

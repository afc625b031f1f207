use Rattle.std.proofs.Common.{subst}
use Rattle.hybrid.specs.HybridLog.{IsHybridLog}
use Rattle.shards.specs.Receipts.{kept_by}
use Rattle.shards.proofs.Counts.{landed}
use Rattle.shards.proofs.shard.Shard.land.Goals as goal

pub returns-clause-done : goal.returns-clause-done
returns-clause-done g c =
    landed c.args.self.now.log c.land.new.self c.args.number c.args.page.now (kept_by g.R.Shows.identity g.R.Shows.shown c.args.receipt)
    (subst IsHybridLog c.stripe.ensures.log c.is_laid_out.ensures.log) c.land.ensures.landed

use Rattle.shards.specs.Receipts.{kept_by}
use Rattle.shards.proofs.Counts.{claimed_step}
use Rattle.shards.proofs.shard.Shard.end_flush.Goals as goal

pub returns-clause-done : goal.returns-clause-done
returns-clause-done g c =
    claimed_step c.args.self.now.log c.claim.new.self.log c.land.new.self.log c.args.number c.args.page.now (kept_by g.R.Shows.identity g.R.Shows.shown c.args.receipt) c.if-not-claim.ensures.claimed
    c.land.ensures.landed c.land.ensures.done

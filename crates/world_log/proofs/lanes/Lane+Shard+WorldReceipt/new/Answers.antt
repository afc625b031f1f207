use Rattle.std.proofs.Common.{◌∙◌, ap, refl, subst, arith}
use Rattle.hybrid.specs.HybridLog.{IsHybridLog}
use Rattle.shards.specs.Counted.{Counted}
use Rattle.world_log.proofs.Beginning.{new_lane}
use Rattle.world_log.proofs.lanes.Lane+Shard+WorldReceipt.new.Goals as goal

pub returns : goal.returns
returns c =
    new_lane c.in-Ok.shard _ c.args.limits.now.stripes c.args.limits.now.buckets c.args.limits.now.frames c.args.limits.now.places
    c.in-Ok.ensures.log c.in-Ok.ensures.counted c.in-Ok.ensures.unmarked
    (subst IsHybridLog (c.stripe.ensures.log ∙ ap (λ (x : Counted). x.log) c.counted.ensures) c.oldest-oldest.ensures.log)
    (c.empty_pages_have_no_record.ensures 0 (omega arith))
    refl c.new-2.ensures.items c.new-3.ensures.items

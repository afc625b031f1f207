use Rattle.std.proofs.Common.{◌∙◌}
use Rattle.world_log.proofs.CleanSteps.{fetched_less, served_places}
use Rattle.world_log.proofs.cleaning.weigh.Goals as goal

pub loop-weight-smaller : goal.loop-weight-smaller
loop-weight-smaller c =
    fetched_less c.reading_ends.ensures c.args.stripe.now c.in-Cold.number c.loop-weight.staged c.fetch.new.staged c.in-Cold.ensures.cold
    c.in_ok-fetch-in-Cold.ensures.fetched

pub loop-weight-preserved : goal.loop-weight-preserved
loop-weight-preserved c =
    let inv = c.loop-weight.invariant in
    record {
      right = c.in_ok-fetch-in-Cold.ensures.right inv.right;
      served = served_places c.args.stripe.now c.loop-weight.device c.fetch.new.device c.in_ok-fetch-in-Cold.ensures.places inv.served;
      places = c.in_ok-fetch-in-Cold.ensures.places ∙ inv.places;
    }

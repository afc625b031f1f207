use Rattle.shards.proofs.shard.Shard.spot.Goals as goal

pub returns-clause-none : goal.returns-clause-none
returns-clause-none g c =
    rw (c.stripe.ensures.log, c.as_slice.ensures, c.key.ensures) at c.spot.ensures.none

use Rattle.std.proofs.Common.{subst, sym}
use Rattle.epoch.specs.Seats.{known}
use Rattle.gates.specs.Background.{IsSpent}
use Rattle.shards.specs.Shards.{shard_pages}
use Rattle.shards.specs.declared.shard.Shard.{Shard}
use Rattle.shards.proofs.Refreed.{spent_now, tried_all}
use Rattle.shards.proofs.shard.Shard.end_freeing.Goals as goal

pub returns-then-claim-2-clause-seat : goal.returns-then-claim-2-clause-seat
returns-then-claim-2-clause-seat g c = record {
  outside = c.free_places-freed.ensures.is;
  tried = tried_all c.free_places-freed.result.refused.retire (known c.args.seat.now) (known c.free_places-freed.new.own) c.free_places-freed.ensures.told;
}

pub returns-else-claim-2-clause-seat : goal.returns-else-claim-2-clause-seat
returns-else-claim-2-clause-seat g c = record {
  outside = c.free_places-freed.ensures.is;
  tried = tried_all c.free_places-freed.result.refused.retire (known c.args.seat.now) (known c.free_places-freed.new.own) c.free_places-freed.ensures.told;
}

pub returns-else-claim-2-clause-told : goal.returns-else-claim-2-clause-told
returns-else-claim-2-clause-told g c =
    let freed = c.free_places-freed in (
      c.if-claim-2.ensures.paged,
      subst (λ (s : Shard _). IsSpent freed.result.refused (shard_pages s) (shard_pages c.claim-2.new.self)) c.if-claim.ensures.same
          (subst (λ (s : Shard _). IsSpent freed.result.refused (shard_pages c.claim.new.self) (shard_pages s)) (sym c.if-claim-2.ensures.same)
          (spent_now c.claim.new.self freed.new.self freed.result freed.ensures.freed)),
    )

use Rattle.std.proofs.Common.{subst, sym}
use Rattle.epoch.specs.Seats.{known}
use Rattle.gates.specs.Background.{IsSpent}
use Rattle.shards.specs.Shards.{shard_pages}
use Rattle.shards.specs.declared.shard.Shard.{Shard}
use Rattle.shards.proofs.Refreed.{spent_now, tried_all}
use Rattle.shards.proofs.shard.Shard.begin_freeing.Goals as goal

pub returns-in-Idle-begin_flush-clause-seat : goal.returns-in-Idle-begin_flush-clause-seat
returns-in-Idle-begin_flush-clause-seat g c = record {
  outside = c.free_places-freed.ensures.is;
  tried = tried_all c.free_places-freed.result.refused.retire (known c.args.seat.now) (known c.free_places-freed.new.own) c.free_places-freed.ensures.told;
}

pub returns-in-Full-begin_flush-clause-seat : goal.returns-in-Full-begin_flush-clause-seat
returns-in-Full-begin_flush-clause-seat g c = record {
  outside = c.free_places-freed.ensures.is;
  tried = tried_all c.free_places-freed.result.refused.retire (known c.args.seat.now) (known c.free_places-freed.new.own) c.free_places-freed.ensures.told;
}

pub returns-in-Sealed-begin_flush-clause-seat : goal.returns-in-Sealed-begin_flush-clause-seat
returns-in-Sealed-begin_flush-clause-seat g c = record {
  outside = c.free_places-freed.ensures.is;
  tried = tried_all c.free_places-freed.result.refused.retire (known c.args.seat.now) (known c.free_places-freed.new.own) c.free_places-freed.ensures.told;
}

pub returns-in-Full-begin_flush-clause-told : goal.returns-in-Full-begin_flush-clause-told
returns-in-Full-begin_flush-clause-told g c =
    let freed = c.free_places-freed in (
      c.in-Full-begin_flush.ensures.told,
      subst (λ (s : Shard _). IsSpent freed.result.refused (shard_pages s) (shard_pages c.begin_flush-2.new.self)) c.in-Full.ensures.counted
          (subst (λ (s : Shard _). IsSpent freed.result.refused (shard_pages c.begin_flush.new.self) (shard_pages s)) (sym c.in-Full-begin_flush.ensures.counted)
          (spent_now c.begin_flush.new.self freed.new.self freed.result freed.ensures.freed)),
    )

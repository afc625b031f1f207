use Rattle.epoch.specs.Seats.{known}
use Rattle.hybrid.specs.declared.stripe.room.Purpose.TheVariants as purpose
use Rattle.shards.specs.Shards.{shard_counted, shard_log}
use Rattle.shards.proofs.Lacking.{keeps_both, keeps_freed, keeps_shed, no_room}
use Rattle.shards.proofs.Refreed.{full_pages, heard_all, made_both, made_freed, made_shed, spent_now, spent_still, spent_since, tried_all, tried_never}
use Rattle.shards.proofs.shard.Shard.make_room.Goals as goal

pub returns-in-Ok-clause-made : goal.returns-in-Ok-clause-made
returns-in-Ok-clause-made g c = made_shed c.args.weight purpose.Clean (shard_counted c.args.self.now) (shard_counted c.reserve.new.self) c.reserve.ensures.few c.reserve.ensures.same.waits

pub returns-in-Err-DeviceFault-clause-made : goal.returns-in-Err-DeviceFault-clause-made
returns-in-Err-DeviceFault-clause-made g c = made_shed c.args.weight purpose.Clean (shard_counted c.args.self.now) (shard_counted c.reserve.new.self) c.reserve.ensures.few c.reserve.ensures.same.waits

pub returns-in-Ok-reserve-clause-room : goal.returns-in-Ok-reserve-clause-room
returns-in-Ok-reserve-clause-room g c = c.in-Ok-reserve.ensures.room

pub returns-in-Ok-reserve-clause-made : goal.returns-in-Ok-reserve-clause-made
returns-in-Ok-reserve-clause-made g c =
    made_both (shard_counted c.args.self.now) (shard_counted c.reserve.new.self) (shard_counted c.reserve-2.new.self)
    (made_shed c.args.weight purpose.Clean (shard_counted c.args.self.now) (shard_counted c.reserve.new.self) c.reserve.ensures.few c.reserve.ensures.same.waits)
    (made_both (shard_counted c.reserve.new.self) (shard_counted c.free_places-freed.new.self) (shard_counted c.reserve-2.new.self)
    (made_freed (shard_counted c.reserve.new.self) (shard_counted c.free_places-freed.new.self) c.free_places-freed.result c.free_places-freed.ensures.freed)
    (made_shed c.args.weight purpose.Clean (shard_counted c.free_places-freed.new.self) (shard_counted c.reserve-2.new.self) c.reserve-2.ensures.few c.reserve-2.ensures.same.waits))

pub returns-in-Err-DeviceFault-reserve-clause-made : goal.returns-in-Err-DeviceFault-reserve-clause-made
returns-in-Err-DeviceFault-reserve-clause-made g c =
    made_both (shard_counted c.args.self.now) (shard_counted c.reserve.new.self) (shard_counted c.reserve-2.new.self)
    (made_shed c.args.weight purpose.Clean (shard_counted c.args.self.now) (shard_counted c.reserve.new.self) c.reserve.ensures.few c.reserve.ensures.same.waits)
    (made_both (shard_counted c.reserve.new.self) (shard_counted c.free_places-freed.new.self) (shard_counted c.reserve-2.new.self)
    (made_freed (shard_counted c.reserve.new.self) (shard_counted c.free_places-freed.new.self) c.free_places-freed.result c.free_places-freed.ensures.freed)
    (made_shed c.args.weight purpose.Clean (shard_counted c.free_places-freed.new.self) (shard_counted c.reserve-2.new.self) c.reserve-2.ensures.few c.reserve-2.ensures.same.waits))

pub returns-in-Err-StoreFull-reserve-clause-made : goal.returns-in-Err-StoreFull-reserve-clause-made
returns-in-Err-StoreFull-reserve-clause-made g c =
    made_both (shard_counted c.args.self.now) (shard_counted c.reserve.new.self) (shard_counted c.reserve-2.new.self)
    (made_shed c.args.weight purpose.Clean (shard_counted c.args.self.now) (shard_counted c.reserve.new.self) c.reserve.ensures.few c.reserve.ensures.same.waits)
    (made_both (shard_counted c.reserve.new.self) (shard_counted c.free_places-freed.new.self) (shard_counted c.reserve-2.new.self)
    (made_freed (shard_counted c.reserve.new.self) (shard_counted c.free_places-freed.new.self) c.free_places-freed.result c.free_places-freed.ensures.freed)
    (made_shed c.args.weight purpose.Clean (shard_counted c.free_places-freed.new.self) (shard_counted c.reserve-2.new.self) c.reserve-2.ensures.few c.reserve-2.ensures.same.waits))

pub returns-in-Ok-clause-seat : goal.returns-in-Ok-clause-seat
returns-in-Ok-clause-seat g c = record { outside = c.requires.outside; tried = tried_never (known c.args.seat.now) }

pub returns-in-Err-DeviceFault-clause-seat : goal.returns-in-Err-DeviceFault-clause-seat
returns-in-Err-DeviceFault-clause-seat g c = record { outside = c.requires.outside; tried = tried_never (known c.args.seat.now) }

pub returns-in-Ok-reserve-clause-seat : goal.returns-in-Ok-reserve-clause-seat
returns-in-Ok-reserve-clause-seat g c = record {
  outside = c.free_places-freed.ensures.is;
  tried = tried_all c.free_places-freed.result.refused.retire (known c.args.seat.now) (known c.free_places-freed.new.own) c.free_places-freed.ensures.told;
}

pub returns-in-Err-DeviceFault-reserve-clause-seat : goal.returns-in-Err-DeviceFault-reserve-clause-seat
returns-in-Err-DeviceFault-reserve-clause-seat g c = record {
  outside = c.free_places-freed.ensures.is;
  tried = tried_all c.free_places-freed.result.refused.retire (known c.args.seat.now) (known c.free_places-freed.new.own) c.free_places-freed.ensures.told;
}

pub returns-in-Err-StoreFull-reserve-clause-seat : goal.returns-in-Err-StoreFull-reserve-clause-seat
returns-in-Err-StoreFull-reserve-clause-seat g c = record {
  outside = c.free_places-freed.ensures.is;
  tried = tried_all c.free_places-freed.result.refused.retire (known c.args.seat.now) (known c.free_places-freed.new.own) c.free_places-freed.ensures.told;
}

pub returns-in-Err-StoreFull-reserve-clause-room : goal.returns-in-Err-StoreFull-reserve-clause-room
returns-in-Err-StoreFull-reserve-clause-room g c =
    let full = rw c.in-Err-StoreFull-reserve.field-0-is at c.in-Err-StoreFull-reserve.ensures.failed.fault in
    let freed = c.free_places-freed in
    record {
      full = full_pages c.reserve-2.new.self full.0;
      spent = spent_since freed.result.refused c.args.self.now c.reserve.new.self c.reserve-2.new.self (made_shed c.args.weight purpose.Clean (shard_counted c.args.self.now) (shard_counted c.reserve.new.self) c.reserve.ensures.few c.reserve.ensures.same.waits).waited
          (spent_still freed.result.refused c.reserve.new.self freed.new.self c.reserve-2.new.self c.reserve-2.ensures.same.waits (spent_now c.reserve.new.self freed.new.self freed.result freed.ensures.freed));
      worn = heard_all freed.result.refused.retire (known c.args.seat.now) (known freed.new.own) freed.ensures.told;
      lacks = no_room c.args.weight (shard_log freed.new.self) (shard_log c.reserve-2.new.self) c.reserve-2.ensures.same.tail c.in-Err-StoreFull-reserve.ensures.lacks;
    }

pub returns-in-Ok-clause-records : goal.returns-in-Ok-clause-records
returns-in-Ok-clause-records g c = keeps_shed c.args.weight purpose.Clean (shard_log c.args.self.now) (shard_log c.reserve.new.self) c.reserve.ensures.few c.reserve.ensures.same.records c.reserve.ensures.same.tail

pub returns-in-Err-DeviceFault-clause-records : goal.returns-in-Err-DeviceFault-clause-records
returns-in-Err-DeviceFault-clause-records g c = keeps_shed c.args.weight purpose.Clean (shard_log c.args.self.now) (shard_log c.reserve.new.self) c.reserve.ensures.few c.reserve.ensures.same.records c.reserve.ensures.same.tail

pub returns-in-Ok-reserve-clause-records : goal.returns-in-Ok-reserve-clause-records
returns-in-Ok-reserve-clause-records g c =
    keeps_both (shard_log c.args.self.now) (shard_log c.reserve.new.self) (shard_log c.reserve-2.new.self)
    (keeps_shed c.args.weight purpose.Clean (shard_log c.args.self.now) (shard_log c.reserve.new.self) c.reserve.ensures.few c.reserve.ensures.same.records c.reserve.ensures.same.tail)
    (keeps_both (shard_log c.reserve.new.self) (shard_log c.free_places-freed.new.self) (shard_log c.reserve-2.new.self)
    (keeps_freed (shard_counted c.reserve.new.self) (shard_counted c.free_places-freed.new.self) c.free_places-freed.result c.free_places-freed.ensures.freed)
    (keeps_shed c.args.weight purpose.Clean (shard_log c.free_places-freed.new.self) (shard_log c.reserve-2.new.self) c.reserve-2.ensures.few c.reserve-2.ensures.same.records c.reserve-2.ensures.same.tail))

pub returns-in-Err-DeviceFault-reserve-clause-records : goal.returns-in-Err-DeviceFault-reserve-clause-records
returns-in-Err-DeviceFault-reserve-clause-records g c =
    keeps_both (shard_log c.args.self.now) (shard_log c.reserve.new.self) (shard_log c.reserve-2.new.self)
    (keeps_shed c.args.weight purpose.Clean (shard_log c.args.self.now) (shard_log c.reserve.new.self) c.reserve.ensures.few c.reserve.ensures.same.records c.reserve.ensures.same.tail)
    (keeps_both (shard_log c.reserve.new.self) (shard_log c.free_places-freed.new.self) (shard_log c.reserve-2.new.self)
    (keeps_freed (shard_counted c.reserve.new.self) (shard_counted c.free_places-freed.new.self) c.free_places-freed.result c.free_places-freed.ensures.freed)
    (keeps_shed c.args.weight purpose.Clean (shard_log c.free_places-freed.new.self) (shard_log c.reserve-2.new.self) c.reserve-2.ensures.few c.reserve-2.ensures.same.records c.reserve-2.ensures.same.tail))

pub returns-in-Err-StoreFull-reserve-clause-records : goal.returns-in-Err-StoreFull-reserve-clause-records
returns-in-Err-StoreFull-reserve-clause-records g c =
    keeps_both (shard_log c.args.self.now) (shard_log c.reserve.new.self) (shard_log c.reserve-2.new.self)
    (keeps_shed c.args.weight purpose.Clean (shard_log c.args.self.now) (shard_log c.reserve.new.self) c.reserve.ensures.few c.reserve.ensures.same.records c.reserve.ensures.same.tail)
    (keeps_both (shard_log c.reserve.new.self) (shard_log c.free_places-freed.new.self) (shard_log c.reserve-2.new.self)
    (keeps_freed (shard_counted c.reserve.new.self) (shard_counted c.free_places-freed.new.self) c.free_places-freed.result c.free_places-freed.ensures.freed)
    (keeps_shed c.args.weight purpose.Clean (shard_log c.free_places-freed.new.self) (shard_log c.reserve-2.new.self) c.reserve-2.ensures.few c.reserve-2.ensures.same.records c.reserve-2.ensures.same.tail))

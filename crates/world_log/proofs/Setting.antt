-- A key of a stripe that is given a value: what the tests do.
use Rattle.std.proofs.Common.{◌≡◌, ℕ, ◌∙◌, map, Some, ap, sym, subst}
use Rattle.std.specs.Prelude.{slice_get}
use Rattle.hybrid.specs.HybridLog.{HybridLog, IsGrown}
use Rattle.hybrid.specs.Shedding.{HasShed}
use Rattle.shards.specs.Counted.{Waiting}
use Rattle.shards.specs.Shards.{shard_waiting}
use Rattle.world_model.specs.Logs.{unreleased}
use Rattle.world_log.specs.Beside.{Agrees, Beside, IsFaithful, flights, log_state, place_stamped}
use Rattle.world_log.specs.Given.{AreAllGiven}
use Rattle.world_log.specs.Places.{Receipt, Shelves, Wrote, view}
use Rattle.world_log.specs.Stripes.{lane_beside, lane_counted, lane_log}
use Rattle.world_log.specs.declared.queues.Queues.{Queues}
use Rattle.world_log.specs.WorldLogs.{AreRising, IsLane, IsWorldLog}
use Rattle.world_log.specs.Types.{Lane}
use Rattle.world_log.specs.declared.logs.WorldLog.{WorldLog}
use Rattle.world_log.proofs.AllGiven.{all_stays, room_kept, room_stays}
use Rattle.world_log.proofs.LaneSteps.{store_device, store_with, with_both}
use Rattle.world_log.proofs.Opening.{grown_right}
use Rattle.world_log.proofs.Planning.{IsRight, faithful_all}
use Rattle.world_log.proofs.Shedding.{room_right}

pub set_right : (store : WorldLog) (i : ℕ) (lane new : Lane) (mid : HybridLog) (device : Shelves) (weight : ℕ) → IsWorldLog store
    → slice_get store.stripes.lanes.items i ≡ Some lane → HasShed {D = Shelves} {R = Receipt} Wrote view (lane_log lane) store.device mid device
    → IsGrown mid (lane_log new) weight → new.queues ≡ lane.queues → shard_waiting new.shard ≡ shard_waiting lane.shard → IsWorldLog (with_both store i new device)
set_right store i lane new mid device weight is there shed grown same waits =
    let one : IsLane store.device store.frames store.limit store.epoch lane = is.lanes i lane there in
    let old : Agrees (lane_counted lane) lane.queues = one.agrees in
    let room = room_right (lane_log lane) mid (lane_beside lane) store.device device one.numbered old.counted shed in
    let stays = room_stays (lane_log lane) mid store.device device shed in
    let was : AreAllGiven device (lane_log lane) (lane_beside lane) = all_stays store.device device (lane_log lane) (lane_beside lane) stays one.given in
    let beside : lane_beside new ≡ lane_beside lane =
    λ j. record { flushing = (same j).flushing; unlinked = (waits j).unlinked; retired = ((same j).retired).items; drained = ((same j).drained).items } in
    let made : IsRight (record store { device = device }) device lane mid = record {
      numbered = room.0;
      counted = room.1;
      faithful = faithful_all shed.count (lane_log lane) mid store.device device lane.queues.flushing shed.all old.faithful;
      frames = room.2 ∙ one.frames;
      places = room.3 ∙ one.places;
      kept = room_kept (lane_log lane) mid store.device device shed (one.given).kept;
    } in
    let right : IsRight (record store { device = device }) device lane (lane_log new) =
    grown_right (record store { device = device }) lane mid (lane_log new) weight grown made in
    store_with (record store { device = device }) i lane new (store_device store device stays is) there
    (record { frames = right.frames ∙ sym one.frames; places = right.places ∙ sym one.places })
    (record {
      counted = right.counted ∙ ap (λ (b : Beside). unreleased (log_state (lane_log new) b)) (sym beside);
      in_flight = ap (λ (w : Waiting). w.in_flight) waits ∙ old.in_flight ∙ ap flights (sym same);
      retired = ap (λ (w : Waiting). w.retired) waits ∙ old.retired;
      drained = ap (λ (w : Waiting). w.drained) waits ∙ old.drained;
      faithful = subst (λ (q : Queues). IsFaithful (lane_log new) q.flushing) (sym same) right.faithful;
    })
    right.numbered
    (subst (AreAllGiven device (lane_log new)) (sym beside)
    (record { kept = right.kept; flushing = was.flushing; unlinked = was.unlinked; retired = was.retired; drained = was.drained }))
    (subst (λ (b : Beside). AreRising store.epoch (map place_stamped b.retired)) (sym beside) one.stamps)

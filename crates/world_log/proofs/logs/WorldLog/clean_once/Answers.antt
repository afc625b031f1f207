use Rattle.std.proofs.Common.{◌<◌, length, refl, arith, sym, subst}
use Rattle.std.proofs.lemmas.Option.{slice_get_read}
use Rattle.world_model.specs.Logs.{LogState}
use Rattle.world_log.proofs.FreeSteps.{cleaned_is}
use Rattle.world_log.proofs.Held.{held_free}
use Rattle.world_log.proofs.LaneSteps.{lane_of, log_there, store_with, store_device}
use Rattle.world_log.proofs.Rising.{unlink_stamps}
use Rattle.world_log.proofs.RoomSteps.{served_at}
use Rattle.world_log.proofs.Values.{both_values}
use Rattle.world_log.specs.Stripes.{lane_beside, lane_log}
use Rattle.world_log.specs.WorldLogs.{AreRising}
use Rattle.world_log.proofs.logs.WorldLog.clean_once.Goals as goal

pub unlink-requires-clause-agrees : goal.unlink-requires-clause-agrees
unlink-requires-clause-agrees c =
    let there = slice_get_read c.args.self.now.stripes.lanes.items (length c.args.self.now.stripes.lanes.items) c.args.i c.index_mut-lane.result.now refl
    (omega (arith, c.requires.within, c.requires.log.even.lanes)) c.index_mut-lane.ensures.value in
    let agrees = (lane_of c.args.self.now c.args.i c.index_mut-lane.result.now c.requires.log there).agrees in
    record { counted = agrees.counted; in_flight = agrees.in_flight; retired = agrees.retired; drained = agrees.drained; faithful = agrees.faithful }

pub unlink-requires-clause-served : goal.unlink-requires-clause-served
unlink-requires-clause-served c =
    let there = slice_get_read c.args.self.now.stripes.lanes.items (length c.args.self.now.stripes.lanes.items) c.args.i c.index_mut-lane.result.now refl
    (omega (arith, c.requires.within, c.requires.log.even.lanes)) c.index_mut-lane.ensures.value in
    served_at c.args.self.now c.args.i c.index_mut-lane.result.now c.requires.log there c.requires.none

pub unlink-requires-clause-cold : goal.unlink-requires-clause-cold
unlink-requires-clause-cold c =
    let there = slice_get_read c.args.self.now.stripes.lanes.items (length c.args.self.now.stripes.lanes.items) c.args.i c.index_mut-lane.result.now refl
    (omega (arith, c.requires.within, c.requires.log.even.lanes)) c.index_mut-lane.ensures.value in
    subst (λ (l : LogState). l.oldest < l.first) (log_there c.args.self.now.stripes.lanes.items c.args.i c.index_mut-lane.result.now there) c.requires.cold

pub returns-clause-does : goal.returns-clause-does
returns-clause-does c =
    let there = slice_get_read c.args.self.now.stripes.lanes.items (length c.args.self.now.stripes.lanes.items) c.args.i c.index_mut-lane.result.now refl
    (omega (arith, c.requires.within, c.requires.log.even.lanes)) c.index_mut-lane.ensures.value in
    let right = c.in_ok-done.ensures.right in
    cleaned_is c.args.self.now c.args.i c.index_mut-lane.result.now c.unlink.new.self c.unlink.new.device c.in_ok-done.done c.requires.log there
    (record { live = right.numbered.live; numbered = right.numbered.numbered }) right.alike.places
    (both_values c.args.self.now c.args.i c.index_mut-lane.result.now c.unlink.new.self c.unlink.new.device there (record { store = right.store; marks = right.marks }))
    c.in_ok-done.ensures.does

pub returns-clause-log : goal.returns-clause-log
returns-clause-log c =
    let there = slice_get_read c.args.self.now.stripes.lanes.items (length c.args.self.now.stripes.lanes.items) c.args.i c.index_mut-lane.result.now refl
    (omega (arith, c.requires.within, c.requires.log.even.lanes)) c.index_mut-lane.ensures.value in
    let right = c.in_ok-done.ensures.right in
    store_with (record c.args.self.now { device = c.unlink.new.device }) c.args.i c.index_mut-lane.result.now c.unlink.new.self
    (store_device c.args.self.now c.unlink.new.device c.in_ok-done.ensures.stays c.requires.log) there right.alike right.agrees right.numbered
    (c.in_ok-done.ensures.given (lane_of c.args.self.now c.args.i c.index_mut-lane.result.now c.requires.log there).given)
    (subst (AreRising c.args.self.now.epoch)
    (sym (unlink_stamps c.in_ok-done.done (lane_log c.index_mut-lane.result.now) (lane_log c.unlink.new.self) (lane_beside c.index_mut-lane.result.now)
    (lane_beside c.unlink.new.self) c.args.self.now.device c.unlink.new.device c.in_ok-done.ensures.does))
    (lane_of c.args.self.now c.args.i c.index_mut-lane.result.now c.requires.log there).stamps)

pub returns-clause-held : goal.returns-clause-held
returns-clause-held c =
    let keeps = held_free c.args.self.now c.args.i c.index_mut-lane.result.now c.unlink.new.self c.requires.free in
    record { holders = keeps.holders; rooms = keeps.rooms }

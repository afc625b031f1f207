use Rattle.std.proofs.Common.{length, refl, arith, subst, sym}
use Rattle.world_log.specs.Stripes.{lane_beside, lane_log}
use Rattle.std.proofs.lemmas.Option.{slice_get_read}
use Rattle.words.specs.Store.{Bytes}
use Rattle.world_log.specs.Beside.{DoesRelease}
use Rattle.world_log.proofs.LaneSteps.{lane_of, reached, store_with, store_device, with_both}
use Rattle.world_log.proofs.RoomSteps.{took_release, drained_there, told_release}
use Rattle.world_log.proofs.AllGiven.{release_stays, release_given}
use Rattle.world_log.proofs.Values.{both_values, took_values}
use Rattle.world_model.specs.declared.event.Event.TheVariants as event
use Rattle.world_log.proofs.Held.{held_release, held_with}
use Rattle.world_log.proofs.Rising.{release_stamps}
use Rattle.world_log.specs.WorldLogs.{AreRising, with_values}
use Rattle.world_log.proofs.logs.WorldLog.release.Goals as goal

pub release-requires-clause-agrees : goal.release-requires-clause-agrees
release-requires-clause-agrees c =
    let there = slice_get_read c.args.self.now.stripes.lanes.items (length c.args.self.now.stripes.lanes.items) c.args.i c.index_mut-lane.result.now refl
    (omega (arith, c.if-i-len.false, c.len.ensures)) c.index_mut-lane.ensures.value in
    let agrees = (lane_of c.args.self.now c.args.i c.index_mut-lane.result.now c.requires.log there).agrees in
    record { counted = agrees.counted; in_flight = agrees.in_flight; retired = agrees.retired; drained = agrees.drained; faithful = agrees.faithful }

pub release-requires-clause-given : goal.release-requires-clause-given
release-requires-clause-given c =
    let there = slice_get_read c.args.self.now.stripes.lanes.items (length c.args.self.now.stripes.lanes.items) c.args.i c.index_mut-lane.result.now refl
    (omega (arith, c.if-i-len.false, c.len.ensures)) c.index_mut-lane.ensures.value in
    drained_there c.args.self.now.device c.index_mut-lane.result.now.queues.drained.items (lane_of c.args.self.now c.args.i c.index_mut-lane.result.now c.requires.log there).given.drained

pub returns-clause-took : goal.returns-clause-took
returns-clause-took c rest =
    let there = slice_get_read c.args.self.now.stripes.lanes.items (length c.args.self.now.stripes.lanes.items) c.args.i c.index_mut-lane.result.now refl
    (omega (arith, c.if-i-len.false, c.len.ensures)) c.index_mut-lane.ensures.value in
    took_values rest (event.Release c.args.i c.args.page.now) c.args.self.now (with_both c.args.self.now c.args.i c.release.new.self c.release.new.device)
    (both_values c.args.self.now c.args.i c.index_mut-lane.result.now c.release.new.self c.release.new.device there
    (record { store = c.release.ensures.right.store; marks = c.release.ensures.right.marks }))
    (λ other. took_release other c.args.self.now c.args.i c.index_mut-lane.result.now c.release.new.self c.release.new.device c.args.page.now c.release.result
    (reached c.args.self.now c.args.i c.index_mut-lane.result.now c.requires.log there)
    (subst (λ (p : Bytes). DoesRelease c.release.result p (lane_log c.index_mut-lane.result.now) (lane_beside c.index_mut-lane.result.now) c.args.self.now.device
    (lane_log c.release.new.self) (lane_beside c.release.new.self) c.release.new.device) c.in_ok-page.ensures c.release.ensures.does))

pub returns-clause-log : goal.returns-clause-log
returns-clause-log c =
    let there = slice_get_read c.args.self.now.stripes.lanes.items (length c.args.self.now.stripes.lanes.items) c.args.i c.index_mut-lane.result.now refl
    (omega (arith, c.if-i-len.false, c.len.ensures)) c.index_mut-lane.ensures.value in
    let right = c.release.ensures.right in
    store_with (record c.args.self.now { device = c.release.new.device }) c.args.i c.index_mut-lane.result.now c.release.new.self
    (store_device c.args.self.now c.release.new.device
    (release_stays c.release.result _ _ (lane_beside c.index_mut-lane.result.now) c.args.self.now.device _ _ _ c.release.ensures.does) c.requires.log)
    there right.alike right.agrees right.numbered
    (release_given c.release.result _ _ (lane_beside c.index_mut-lane.result.now) c.args.self.now.device _ _ _ c.release.ensures.does
    (lane_of c.args.self.now c.args.i c.index_mut-lane.result.now c.requires.log there).given)
    (subst (AreRising c.args.self.now.epoch)
    (sym (release_stamps c.release.result _ (lane_log c.index_mut-lane.result.now) (lane_log c.release.new.self) (lane_beside c.index_mut-lane.result.now)
    (lane_beside c.release.new.self) c.args.self.now.device c.release.new.device c.release.ensures.does))
    (lane_of c.args.self.now c.args.i c.index_mut-lane.result.now c.requires.log there).stamps)

pub returns-clause-given : goal.returns-clause-given
returns-clause-given c =
    release_stays c.release.result _ _ (lane_beside c.index_mut-lane.result.now) c.args.self.now.device _ _ _ c.release.ensures.does

pub returns-clause-held : goal.returns-clause-held
returns-clause-held c =
    let there = slice_get_read c.args.self.now.stripes.lanes.items (length c.args.self.now.stripes.lanes.items) c.args.i c.index_mut-lane.result.now refl
    (omega (arith, c.if-i-len.false, c.len.ensures)) c.index_mut-lane.ensures.value in
    let keeps = held_with c.args.self.now c.args.i c.index_mut-lane.result.now c.release.new.self there
    (held_release c.release.result _ _ _ (lane_beside c.index_mut-lane.result.now) _ c.args.self.now.device _ c.release.ensures.does) in
    record { holders = keeps.holders; rooms = keeps.rooms }

pub returns-clause-told : goal.returns-clause-told
returns-clause-told c rest =
    let there = slice_get_read c.args.self.now.stripes.lanes.items (length c.args.self.now.stripes.lanes.items) c.args.i c.index_mut-lane.result.now refl
    (omega (arith, c.if-i-len.false, c.len.ensures)) c.index_mut-lane.ensures.value in
    told_release (with_values rest c.args.self.now.stripes) c.args.self.now c.args.i c.index_mut-lane.result.now c.release.new.self c.release.new.device c.args.page.now c.release.result
    (reached c.args.self.now c.args.i c.index_mut-lane.result.now c.requires.log there)
    (subst (λ (p : Bytes). DoesRelease c.release.result p (lane_log c.index_mut-lane.result.now) (lane_beside c.index_mut-lane.result.now) c.args.self.now.device
    (lane_log c.release.new.self) (lane_beside c.release.new.self) c.release.new.device) c.in_ok-page.ensures c.release.ensures.does)

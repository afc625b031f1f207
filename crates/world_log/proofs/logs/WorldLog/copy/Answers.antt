use Rattle.std.proofs.Common.{length, refl, arith, subst, sym}
use Rattle.std.proofs.lemmas.Option.{slice_get_read}
use Rattle.world_log.proofs.LaneSteps.{lane_of, reached, free_is, took_copy, store_with, with_lane, told_copy}
use Rattle.world_log.proofs.Values.{lane_values, took_values}
use Rattle.world_model.specs.declared.event.Event.TheVariants as event
use Rattle.world_log.proofs.Held.{held_free}
use Rattle.world_log.proofs.Rising.{copy_stamps}
use Rattle.world_log.specs.Stripes.{lane_beside, lane_log}
use Rattle.world_log.specs.WorldLogs.{AreRising, with_values}
use Rattle.world_log.proofs.logs.WorldLog.copy.Goals as goal

pub copy-requires : goal.copy-requires
copy-requires c =
    let there = slice_get_read c.args.self.now.stripes.lanes.items (length c.args.self.now.stripes.lanes.items) c.args.i c.index_mut-lane.result.now refl
    (omega (arith, c.if-i-len.false, c.len.ensures)) c.index_mut-lane.ensures.value in
    let agrees = (lane_of c.args.self.now c.args.i c.index_mut-lane.result.now c.requires.log there).agrees in
    record { agrees = record { counted = agrees.counted; in_flight = agrees.in_flight; retired = agrees.retired; drained = agrees.drained; faithful = agrees.faithful } }

pub returns-clause-took : goal.returns-clause-took
returns-clause-took c rest =
    let there = slice_get_read c.args.self.now.stripes.lanes.items (length c.args.self.now.stripes.lanes.items) c.args.i c.index_mut-lane.result.now refl
    (omega (arith, c.if-i-len.false, c.len.ensures)) c.index_mut-lane.ensures.value in
    let held = slice_get_read c.args.self.now.stripes.holders.items (length c.args.self.now.stripes.holders.items) c.args.i c.index.result.now refl
    (omega (arith, c.if-i-len.false, c.len.ensures, c.requires.log.even.lanes)) c.index.ensures in
    took_values rest (event.Copy c.args.i) c.args.self.now (with_lane c.args.self.now c.args.i c.copy.new.self)
    (lane_values c.args.self.now c.args.i c.index_mut-lane.result.now c.copy.new.self there (record { store = c.in_ok-done.ensures.right.store; marks = c.in_ok-done.ensures.right.marks }))
    (λ other. took_copy other c.args.self.now c.args.i c.index_mut-lane.result.now c.copy.new.self c.in_ok-done.done
    c.requires.log (reached c.args.self.now c.args.i c.index_mut-lane.result.now c.requires.log there)
    (free_is c.args.self.now c.args.i c.index.result.now held (rw c.is_some.ensures at c.if-is_some.false)) c.in_ok-done.ensures.does)

pub returns-clause-log : goal.returns-clause-log
returns-clause-log c =
    let there = slice_get_read c.args.self.now.stripes.lanes.items (length c.args.self.now.stripes.lanes.items) c.args.i c.index_mut-lane.result.now refl
    (omega (arith, c.if-i-len.false, c.len.ensures)) c.index_mut-lane.ensures.value in
    let right = c.in_ok-done.ensures.right in
    store_with c.args.self.now c.args.i c.index_mut-lane.result.now c.copy.new.self c.requires.log there right.alike right.agrees right.numbered
    (c.in_ok-done.ensures.given c.args.self.now.device (lane_of c.args.self.now c.args.i c.index_mut-lane.result.now c.requires.log there).given)
    (subst (AreRising c.args.self.now.epoch)
    (sym (copy_stamps c.in_ok-done.done (lane_log c.index_mut-lane.result.now) (lane_log c.copy.new.self) (lane_beside c.index_mut-lane.result.now) (lane_beside c.copy.new.self)
    c.in_ok-done.ensures.does))
    (lane_of c.args.self.now c.args.i c.index_mut-lane.result.now c.requires.log there).stamps)

pub returns-clause-held : goal.returns-clause-held
returns-clause-held c =
    let held = slice_get_read c.args.self.now.stripes.holders.items (length c.args.self.now.stripes.holders.items) c.args.i c.index.result.now refl
    (omega (arith, c.if-i-len.false, c.len.ensures, c.requires.log.even.lanes)) c.index.ensures in
    held_free c.args.self.now c.args.i c.index_mut-lane.result.now c.copy.new.self
    (free_is c.args.self.now c.args.i c.index.result.now held (rw c.is_some.ensures at c.if-is_some.false))

pub returns-clause-told : goal.returns-clause-told
returns-clause-told c rest =
    let there = slice_get_read c.args.self.now.stripes.lanes.items (length c.args.self.now.stripes.lanes.items) c.args.i c.index_mut-lane.result.now refl
    (omega (arith, c.if-i-len.false, c.len.ensures)) c.index_mut-lane.ensures.value in
    let held = slice_get_read c.args.self.now.stripes.holders.items (length c.args.self.now.stripes.holders.items) c.args.i c.index.result.now refl
    (omega (arith, c.if-i-len.false, c.len.ensures, c.requires.log.even.lanes)) c.index.ensures in
    told_copy (with_values rest c.args.self.now.stripes) c.args.self.now c.args.i c.index_mut-lane.result.now c.copy.new.self c.in_ok-done.done c.requires.log
    (reached c.args.self.now c.args.i c.index_mut-lane.result.now c.requires.log there)
    (free_is c.args.self.now c.args.i c.index.result.now held (rw c.is_some.ensures at c.if-is_some.false)) c.in_ok-done.ensures.does

use Rattle.std.proofs.Common.{◌∙◌, length, refl, arith, sym, subst}
use Rattle.std.proofs.lemmas.Option.{slice_get_read}
use Rattle.world_log.specs.WorldLogs.{IsOldest, with_values}
use Rattle.world_log.specs.Types.{Lane}
use Rattle.world_log.proofs.LaneSteps.{reached, same_lane, took_drain_by, took_drain_held, store_drained_by, with_lane, told_drain_by, told_drain_held, told_drain_none}
use Rattle.world_log.proofs.Values.{beside_values, no_values, took_values_with}
use Rattle.world_model.specs.declared.event.Event.TheVariants as event
use Rattle.world_log.proofs.Held.{held_with}
use Rattle.world_log.proofs.logs.WorldLog.drain.Goals as goal

pub returns-clause-took : goal.returns-clause-took
returns-clause-took c rest stays =
    let there = slice_get_read c.args.self.now.stripes.lanes.items (length c.args.self.now.stripes.lanes.items) c.args.i c.index_mut-lane.result.now refl
    (omega (arith, c.if-i-len.false, c.len.ensures)) c.index_mut-lane.ensures.value in
    let here = slice_get_read c.args.self.now.stripes.lanes.items (length c.args.self.now.stripes.lanes.items) c.args.i c.index.result.now refl
    (omega (arith, c.if-i-len.false, c.len.ensures)) c.index.ensures in
    let oldest : IsOldest c.index_mut-lane.result.now.queues c.in-Some.epoch =
    subst (λ (lane : Lane). IsOldest lane.queues c.in-Some.epoch) (same_lane c.args.self.now c.args.i c.index.result.now c.index_mut-lane.result.now here there) c.in-Some.ensures.some in
    took_values_with rest (event.Drain c.args.i) c.args.self.now
    (with_lane c.args.self.now c.args.i (record { shard = c.index_mut-lane.result.now.shard; queues = c.drain.new.queues }))
    (beside_values c.args.self.now c.args.i c.index_mut-lane.result.now c.drain.new.queues there)
    (took_drain_by (with_values rest c.args.self.now.stripes) c.args.self.now c.args.i c.index_mut-lane.result.now (record { shard = c.index_mut-lane.result.now.shard; queues = c.drain.new.queues }) c.args.stays.now
    c.in-Some.epoch c.in_ok-done.done (reached c.args.self.now c.args.i c.index_mut-lane.result.now c.requires.log there) stays refl oldest
    (sym c.are_past.ensures ∙ c.if-not-are_past.false) c.in_ok-done.ensures.does)

pub returns-clause-log : goal.returns-clause-log
returns-clause-log c =
    let there = slice_get_read c.args.self.now.stripes.lanes.items (length c.args.self.now.stripes.lanes.items) c.args.i c.index_mut-lane.result.now refl
    (omega (arith, c.if-i-len.false, c.len.ensures)) c.index_mut-lane.ensures.value in
    let here = slice_get_read c.args.self.now.stripes.lanes.items (length c.args.self.now.stripes.lanes.items) c.args.i c.index.result.now refl
    (omega (arith, c.if-i-len.false, c.len.ensures)) c.index.ensures in
    let oldest : IsOldest c.index_mut-lane.result.now.queues c.in-Some.epoch =
    subst (λ (lane : Lane). IsOldest lane.queues c.in-Some.epoch) (same_lane c.args.self.now c.args.i c.index.result.now c.index_mut-lane.result.now here there) c.in-Some.ensures.some in
    store_drained_by c.args.self.now c.args.i c.index_mut-lane.result.now c.drain.new.queues c.in-Some.epoch c.in_ok-done.done c.requires.log there oldest
    c.in_ok-done.ensures.does

pub returns-then-not-are_past-clause-took : goal.returns-then-not-are_past-clause-took
returns-then-not-are_past-clause-took c rest stays =
    let here = slice_get_read c.args.self.now.stripes.lanes.items (length c.args.self.now.stripes.lanes.items) c.args.i c.index.result.now refl
    (omega (arith, c.if-i-len.false, c.len.ensures)) c.index.ensures in
    let oldest : IsOldest c.index.result.now.queues c.in-Some.epoch = c.in-Some.ensures.some in
    took_values_with rest (event.Drain c.args.i) c.args.self.now c.args.self.now (no_values c.args.self.now)
    (took_drain_held (with_values rest c.args.self.now.stripes) c.args.self.now c.args.i c.index.result.now c.args.stays.now oldest.one oldest.others
    (reached c.args.self.now c.args.i c.index.result.now c.requires.log here) stays oldest.items
    (rw oldest.stamp (sym c.are_past.ensures ∙ c.if-not-are_past.true)))

pub returns-clause-held : goal.returns-clause-held
returns-clause-held c =
    let there = slice_get_read c.args.self.now.stripes.lanes.items (length c.args.self.now.stripes.lanes.items) c.args.i c.index_mut-lane.result.now refl
    (omega (arith, c.if-i-len.false, c.len.ensures)) c.index_mut-lane.ensures.value in
    let keeps = held_with c.args.self.now c.args.i c.index_mut-lane.result.now (record { shard = c.index_mut-lane.result.now.shard; queues = c.drain.new.queues }) there (λ weight room. room) in
    record { holders = keeps.holders; rooms = keeps.rooms }

pub returns-clause-told : goal.returns-clause-told
returns-clause-told c rest stays =
    let there = slice_get_read c.args.self.now.stripes.lanes.items (length c.args.self.now.stripes.lanes.items) c.args.i c.index_mut-lane.result.now refl
    (omega (arith, c.if-i-len.false, c.len.ensures)) c.index_mut-lane.ensures.value in
    let here = slice_get_read c.args.self.now.stripes.lanes.items (length c.args.self.now.stripes.lanes.items) c.args.i c.index.result.now refl
    (omega (arith, c.if-i-len.false, c.len.ensures)) c.index.ensures in
    let oldest : IsOldest c.index_mut-lane.result.now.queues c.in-Some.epoch =
    subst (λ (lane : Lane). IsOldest lane.queues c.in-Some.epoch) (same_lane c.args.self.now c.args.i c.index.result.now c.index_mut-lane.result.now here there) c.in-Some.ensures.some in
    told_drain_by (with_values rest c.args.self.now.stripes) c.args.self.now c.args.i c.index_mut-lane.result.now c.drain.new.queues c.args.stays.now c.in-Some.epoch c.in_ok-done.done
    (reached c.args.self.now c.args.i c.index_mut-lane.result.now c.requires.log there) stays oldest (sym c.are_past.ensures ∙ c.if-not-are_past.false) c.in_ok-done.ensures.does

pub returns-then-not-are_past-clause-told : goal.returns-then-not-are_past-clause-told
returns-then-not-are_past-clause-told c rest stays =
    let here = slice_get_read c.args.self.now.stripes.lanes.items (length c.args.self.now.stripes.lanes.items) c.args.i c.index.result.now refl
    (omega (arith, c.if-i-len.false, c.len.ensures)) c.index.ensures in
    told_drain_held (with_values rest c.args.self.now.stripes) c.args.self.now c.args.i c.index.result.now c.args.stays.now c.in-Some.epoch
    (reached c.args.self.now c.args.i c.index.result.now c.requires.log here) stays c.in-Some.ensures.some (sym c.are_past.ensures ∙ c.if-not-are_past.true)

pub returns-in_default-clause-told : goal.returns-in_default-clause-told
returns-in_default-clause-told c rest stays =
    let here = slice_get_read c.args.self.now.stripes.lanes.items (length c.args.self.now.stripes.lanes.items) c.args.i c.index.result.now refl
    (omega (arith, c.if-i-len.false, c.len.ensures)) c.index.ensures in
    told_drain_none (with_values rest c.args.self.now.stripes) c.args.self.now c.args.i c.index.result.now (reached c.args.self.now c.args.i c.index.result.now c.requires.log here) c.in_default.ensures.none

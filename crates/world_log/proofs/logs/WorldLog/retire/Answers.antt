use Rattle.std.proofs.Common.{length, refl, arith, subst, sym}
use Rattle.std.proofs.lemmas.Option.{slice_get_read}
use Rattle.hybrid.specs.HybridLog.{HasRoom, HybridLog}
use Rattle.world_log.proofs.LaneSteps.{lane_of, reached, took_retire, took_retire_not, store_retired, store_same, with_epoch, with_lane, told_retire}
use Rattle.world_log.proofs.Values.{lane_values, took_values}
use Rattle.world_model.specs.declared.event.Event.TheVariants as event
use Rattle.world_log.proofs.Held.{held_with}
use Rattle.world_log.specs.WorldLogs.{with_values}
use Rattle.world_log.proofs.logs.WorldLog.retire.Goals as goal

pub retire-requires : goal.retire-requires
retire-requires c =
    let there = slice_get_read c.args.self.now.stripes.lanes.items (length c.args.self.now.stripes.lanes.items) c.args.i c.index_mut-lane.result.now refl
    (omega (arith, c.if-i-len.false, c.len.ensures)) c.index_mut-lane.ensures.value in
    let agrees = (lane_of c.args.self.now c.args.i c.index_mut-lane.result.now c.requires.log there).agrees in
    record { agrees = record { counted = agrees.counted; in_flight = agrees.in_flight; retired = agrees.retired; drained = agrees.drained; faithful = agrees.faithful } }

pub returns-then-done-clause-took : goal.returns-then-done-clause-took
returns-then-done-clause-took c rest =
    let there = slice_get_read c.args.self.now.stripes.lanes.items (length c.args.self.now.stripes.lanes.items) c.args.i c.index_mut-lane.result.now refl
    (omega (arith, c.if-i-len.false, c.len.ensures)) c.index_mut-lane.ensures.value in
    let right = c.in_ok-done.ensures.right in
    let values = lane_values c.args.self.now c.args.i c.index_mut-lane.result.now c.retire.new.self there (record { store = right.store; marks = right.marks }) in
    took_values rest (event.Retire c.args.i) c.args.self.now (with_epoch c.args.self.now c.args.i c.retire.new.self c.in-Some.next)
    (record { stores = values.stores; marks = values.marks })
    (λ other. took_retire other c.args.self.now c.args.i c.index_mut-lane.result.now c.retire.new.self c.in-Some.next
    (reached c.args.self.now c.args.i c.index_mut-lane.result.now c.requires.log there) (omega (arith, c.in-Some.ensures)) c.in_ok-done.ensures.log
    (rw c.if-done.true at c.in_ok-done.ensures.does))

pub returns-then-done-clause-log : goal.returns-then-done-clause-log
returns-then-done-clause-log c =
    let there = slice_get_read c.args.self.now.stripes.lanes.items (length c.args.self.now.stripes.lanes.items) c.args.i c.index_mut-lane.result.now refl
    (omega (arith, c.if-i-len.false, c.len.ensures)) c.index_mut-lane.ensures.value in
    store_retired c.args.self.now c.args.i c.index_mut-lane.result.now c.retire.new.self c.in-Some.next c.requires.log there
    (omega (arith, c.in-Some.ensures)) c.in_ok-done.ensures.log c.in_ok-done.ensures.right.agrees (rw c.if-done.true at c.in_ok-done.ensures.does)

pub returns-then-done-clause-held : goal.returns-then-done-clause-held
returns-then-done-clause-held c =
    let there = slice_get_read c.args.self.now.stripes.lanes.items (length c.args.self.now.stripes.lanes.items) c.args.i c.index_mut-lane.result.now refl
    (omega (arith, c.if-i-len.false, c.len.ensures)) c.index_mut-lane.ensures.value in
    let keeps = held_with c.args.self.now c.args.i c.index_mut-lane.result.now c.retire.new.self there
    (λ weight room. subst (λ (p : HybridLog). HasRoom p weight) (sym c.in_ok-done.ensures.log) room) in
    record { holders = keeps.holders; rooms = keeps.rooms }

pub returns-else-done-clause-took : goal.returns-else-done-clause-took
returns-else-done-clause-took c rest =
    let there = slice_get_read c.args.self.now.stripes.lanes.items (length c.args.self.now.stripes.lanes.items) c.args.i c.index_mut-lane.result.now refl
    (omega (arith, c.if-i-len.false, c.len.ensures)) c.index_mut-lane.ensures.value in
    let right = c.in_ok-done.ensures.right in
    let values = lane_values c.args.self.now c.args.i c.index_mut-lane.result.now c.retire.new.self there (record { store = right.store; marks = right.marks }) in
    took_values rest (event.Retire c.args.i) c.args.self.now (with_lane c.args.self.now c.args.i c.retire.new.self) values
    (λ other. took_retire_not other c.args.self.now c.args.i c.index_mut-lane.result.now c.retire.new.self
    (reached c.args.self.now c.args.i c.index_mut-lane.result.now c.requires.log there) c.in_ok-done.ensures.log
    (rw c.if-done.false at c.in_ok-done.ensures.does))

pub returns-else-done-clause-log : goal.returns-else-done-clause-log
returns-else-done-clause-log c =
    let there = slice_get_read c.args.self.now.stripes.lanes.items (length c.args.self.now.stripes.lanes.items) c.args.i c.index_mut-lane.result.now refl
    (omega (arith, c.if-i-len.false, c.len.ensures)) c.index_mut-lane.ensures.value in
    let does = rw c.if-done.false at c.in_ok-done.ensures.does in
    store_same c.args.self.now c.args.i c.index_mut-lane.result.now c.retire.new.self c.requires.log there c.in_ok-done.ensures.log
    c.in_ok-done.ensures.right.agrees does.1

pub returns-else-done-clause-held : goal.returns-else-done-clause-held
returns-else-done-clause-held c =
    let there = slice_get_read c.args.self.now.stripes.lanes.items (length c.args.self.now.stripes.lanes.items) c.args.i c.index_mut-lane.result.now refl
    (omega (arith, c.if-i-len.false, c.len.ensures)) c.index_mut-lane.ensures.value in
    let keeps = held_with c.args.self.now c.args.i c.index_mut-lane.result.now c.retire.new.self there
    (λ weight room. subst (λ (p : HybridLog). HasRoom p weight) (sym c.in_ok-done.ensures.log) room) in
    record { holders = keeps.holders; rooms = keeps.rooms }

pub returns-then-done-clause-told : goal.returns-then-done-clause-told
returns-then-done-clause-told c rest =
    let there = slice_get_read c.args.self.now.stripes.lanes.items (length c.args.self.now.stripes.lanes.items) c.args.i c.index_mut-lane.result.now refl
    (omega (arith, c.if-i-len.false, c.len.ensures)) c.index_mut-lane.ensures.value in
    told_retire (with_values rest c.args.self.now.stripes) c.args.self.now c.args.i c.index_mut-lane.result.now c.retire.new.self c.in_ok-done.done
    (reached c.args.self.now c.args.i c.index_mut-lane.result.now c.requires.log there) c.in_ok-done.ensures.does

pub returns-else-done-clause-told : goal.returns-else-done-clause-told
returns-else-done-clause-told c rest =
    let there = slice_get_read c.args.self.now.stripes.lanes.items (length c.args.self.now.stripes.lanes.items) c.args.i c.index_mut-lane.result.now refl
    (omega (arith, c.if-i-len.false, c.len.ensures)) c.index_mut-lane.ensures.value in
    told_retire (with_values rest c.args.self.now.stripes) c.args.self.now c.args.i c.index_mut-lane.result.now c.retire.new.self c.in_ok-done.done
    (reached c.args.self.now c.args.i c.index_mut-lane.result.now c.requires.log there) c.in_ok-done.ensures.does

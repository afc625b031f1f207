use Rattle.std.proofs.Common.{length, refl, arith}
use Rattle.std.proofs.lemmas.Option.{slice_get_read}
use Rattle.world_log.proofs.AllGiven.{write_stays}
use Rattle.world_log.proofs.LaneSteps.{reached, took_write, store_written, with_both, told_write}
use Rattle.world_log.proofs.Values.{beside_values, took_values}
use Rattle.world_model.specs.declared.event.Event.TheVariants as event
use Rattle.world_log.proofs.Held.{held_with}
use Rattle.world_log.specs.WorldLogs.{with_values}
use Rattle.world_log.proofs.logs.WorldLog.write.Goals as goal

pub returns-clause-took : goal.returns-clause-took
returns-clause-took c rest =
    let there = slice_get_read c.args.self.now.stripes.lanes.items (length c.args.self.now.stripes.lanes.items) c.args.i c.index_mut-lane.result.now refl
    (omega (arith, c.if-i-len.false, c.len.ensures)) c.index_mut-lane.ensures.value in
    took_values rest (event.Write c.args.i) c.args.self.now
    (with_both c.args.self.now c.args.i (record { shard = c.index_mut-lane.result.now.shard; queues = c.write.new.queues }) c.write.new.device)
    (beside_values c.args.self.now c.args.i c.index_mut-lane.result.now c.write.new.queues there)
    (λ other. took_write other c.args.self.now c.args.i c.index_mut-lane.result.now (record { shard = c.index_mut-lane.result.now.shard; queues = c.write.new.queues })
    c.write.new.device c.in_ok-done.done (reached c.args.self.now c.args.i c.index_mut-lane.result.now c.requires.log there) refl c.in_ok-done.ensures.does)

pub returns-clause-log : goal.returns-clause-log
returns-clause-log c =
    let there = slice_get_read c.args.self.now.stripes.lanes.items (length c.args.self.now.stripes.lanes.items) c.args.i c.index_mut-lane.result.now refl
    (omega (arith, c.if-i-len.false, c.len.ensures)) c.index_mut-lane.ensures.value in
    store_written c.args.self.now c.args.i c.index_mut-lane.result.now c.write.new.queues c.write.new.device c.in_ok-done.done c.requires.log there
    c.in_ok-done.ensures.does

pub returns-clause-given : goal.returns-clause-given
returns-clause-given c =
    write_stays c.in_ok-done.done c.index_mut-lane.result.now.queues c.args.self.now.device c.write.new.queues c.write.new.device c.in_ok-done.ensures.does

pub returns-clause-held : goal.returns-clause-held
returns-clause-held c =
    let there = slice_get_read c.args.self.now.stripes.lanes.items (length c.args.self.now.stripes.lanes.items) c.args.i c.index_mut-lane.result.now refl
    (omega (arith, c.if-i-len.false, c.len.ensures)) c.index_mut-lane.ensures.value in
    let keeps = held_with c.args.self.now c.args.i c.index_mut-lane.result.now (record { shard = c.index_mut-lane.result.now.shard; queues = c.write.new.queues }) there (λ weight room. room) in
    record { holders = keeps.holders; rooms = keeps.rooms }

pub returns-clause-told : goal.returns-clause-told
returns-clause-told c rest =
    let there = slice_get_read c.args.self.now.stripes.lanes.items (length c.args.self.now.stripes.lanes.items) c.args.i c.index_mut-lane.result.now refl
    (omega (arith, c.if-i-len.false, c.len.ensures)) c.index_mut-lane.ensures.value in
    told_write (with_values rest c.args.self.now.stripes) c.args.self.now c.args.i c.index_mut-lane.result.now c.write.new.queues c.write.new.device c.in_ok-done.done
    (reached c.args.self.now c.args.i c.index_mut-lane.result.now c.requires.log there) c.in_ok-done.ensures.does

use Rattle.std.proofs.Common.{◌∙◌, length, refl, arith}
use Rattle.std.proofs.lemmas.Option.{slice_get_read}
use Rattle.shards.specs.Shards.{shard_log}
use Rattle.world_log.proofs.Setting.{set_right}
use Rattle.world_log.proofs.tests.set.Goals as goal

pub returns : goal.returns
returns c =
    let there = slice_get_read c.args.log.now.stripes.lanes.items (length c.args.log.now.stripes.lanes.items) 0 c.index_mut-lane.result.now refl
    (omega (arith, c.requires.log.even.some, c.requires.log.even.lanes)) c.index_mut-lane.ensures.value in
    record {
      log =
          set_right c.args.log.now 0 c.index_mut-lane.result.now (record { shard = c.set.new.self; queues = c.index_mut-lane.result.now.queues })
          (shard_log c.reserve.new.self) c.reserve.new.device _ c.requires.log there (c.reserve.ensures.shed c.in-Ok.ensures.failed.no_fault) c.set.ensures.grown refl
          (c.set.ensures.waits ∙ c.reserve.ensures.same.waits);
    }

-- The stripes of the world: a lane is over any part in code, and here over the shards of the world.
use Rattle.shards.specs.declared.shard.Shard.{Shard}
use Rattle.world_log.specs.Places.{Receipt}
use Rattle.world_log.specs.declared.lanes.Lane as any
use Rattle.world_log.specs.declared.stripes.Stripes as any_lanes

-- a stripe's part of the store, with what the world has beside its log
abbrev pub Lane : Type 0
Lane = any.Lane (Shard Receipt)

-- all stripes
abbrev pub Stripes : Type 0
Stripes = any_lanes.Stripes (Shard Receipt)

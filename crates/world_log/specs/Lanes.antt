-- What a step on a stripe leaves.
use Rattle.std.specs.Prelude.{ℕ, ◌≡◌, List, [], Some, None, length, slice_get}
use Rattle.words.specs.Store.{Bytes}
use Rattle.shards.specs.Shards.{shard_store, shard_marks}
use Rattle.hybrid.specs.HybridLog.{HybridLog, receipt_at}
use Rattle.world_log.specs.Places.{Receipt, view}
use Rattle.world_log.specs.Beside.{Agrees, IsAlike, IsNumbered}
use Rattle.world_model.specs.Logs.{new_log}
use Rattle.world_log.specs.Stripes.{lane_counted, lane_log, lane_state}
use Rattle.world_log.specs.WorldLogs.{IsLane}
use Rattle.world_log.specs.Types.{Lane}

-- the log agrees with what stands beside it, and what keys have is as it was
pub record StaysRight (old new : Lane) : Type 0 where
  pub agrees : Agrees (lane_counted new) new.queues
  pub numbered : IsNumbered (lane_log new)
  pub alike : IsAlike (lane_log old) (lane_log new)
  pub store : shard_store new.shard ≡ shard_store old.shard
  pub marks : shard_marks new.shard ≡ shard_marks old.shard

-- the receipt that is kept of the page with this number is of this place
pub record IsOfPlace (p : HybridLog) (number place : ℕ) : Type 0 where
  pub receipt : Receipt
  pub kept : receipt_at p number ≡ Some (view receipt)
  pub of : receipt.place ≡ place

-- a stripe at the beginning: page 0 is open, no key has a value, and none is watched
pub record IsNewLane (frame_count limit : ℕ) (lane : Lane) : Type 0 where
  pub log : lane_state lane ≡ new_log
  pub store : (key : Bytes) → shard_store lane.shard key ≡ None
  pub marks : (key : Bytes) (session : ℕ) → shard_marks lane.shard key session ≡ None
  pub right : IsLane (record { shelves = []; failures = 0; reads = 0; releases = 0 }) frame_count limit 1 lane

-- so many
pub record AreNewLanes (count frame_count limit : ℕ) (lanes : List Lane) : Type 0 where
  pub count_is : length lanes ≡ count
  pub each : (i : ℕ) (lane : Lane) → slice_get lanes i ≡ Some lane → IsNewLane frame_count limit lane

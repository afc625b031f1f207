use Rattle.std.proofs.Common.{◌≡◌, ◌<◌, ◌≤◌, ◌-◌, ℕ, List}
use Rattle.epoch.specs.Seats.{IsOutside, known}
use Rattle.hybrid.specs.Staging.{AreRight}
use Rattle.hybrid.specs.Weighing.{oldest_weight}
use Rattle.hybrid.specs.declared.stripe.TheConstants.{CLEAN_WEIGHT}
use Rattle.shards.specs.Cleaning.{HasMadeRoom, KeepsRecords}
use Rattle.shards.specs.Heard.{HasTried}
use Rattle.shards.specs.Shards.{shard_counted, shard_log, shard_marks, shard_store}
use Rattle.shards.proofs.shard.Shard.leave.Given as goal

abbrev pub invariant-leaving : goal.invariant-leaving
invariant-leaving g l = record {
  outside : IsOutside l.epochs l.seat;
  weighed : l.weight ≤ CLEAN_WEIGHT;
  left : (shard_log l.self).oldest < (shard_log l.self).resident.oldest;
  right : g.R.Shows.is_steady → AreRight l.fn.staged → AreRight l.staged;
  store : g.R.Shows.is_steady → AreRight l.fn.staged → (key : List ℕ) → shard_store l.self key ≡ shard_store l.fn.self key;
  marks : shard_marks l.self ≡ shard_marks l.fn.self;
  made : HasMadeRoom (shard_counted l.fn.self) (shard_counted l.self);
  tried : HasTried (known l.fn.seat) (known l.seat);
  weighs : g.R.Shows.is_steady → AreRight l.fn.staged → l.weight ≡ oldest_weight (shard_log l.fn.self);
  records : KeepsRecords (shard_log l.fn.self) (shard_log l.self);
  failures : g.D.Device.failures l.device ≡ g.D.Device.failures l.fn.device;
}

abbrev pub decreases-leaving : goal.decreases-leaving
decreases-leaving g l = CLEAN_WEIGHT - l.weight

-- What a step on a stripe leaves.
use Rattle.std.proofs.Common.{◌≡◌, ap}
use Rattle.hybrid.specs.HybridLog.{IsHybridLog, SameContents}
use Rattle.hybrid.specs.Log.{Log, contents}
use Rattle.shards.specs.Shards.{shard_marks}
use Rattle.world_log.specs.Beside.{Agrees, IsAlike, SameLog}
use Rattle.world_log.specs.Lanes.{StaysRight}
use Rattle.world_log.specs.Stripes.{lane_counted, lane_log}
use Rattle.world_log.specs.Types.{Lane}
use Rattle.world_log.proofs.Agreeing.{numbered_of}

pub lane_right : (old new : Lane) → Agrees (lane_counted new) new.queues → IsAlike (lane_log old) (lane_log new) → IsHybridLog (lane_log new)
    → SameLog (lane_log old) (lane_log new) → shard_marks new.shard ≡ shard_marks old.shard → StaysRight old new
lane_right old new agrees alike fit same marks = record {
  agrees = agrees;
  numbered = numbered_of (lane_log new) fit;
  alike = record { frames = alike.frames; places = alike.places };
  store = ap (λ (l : Log). contents l) same;
  marks = marks;
}

pub lane_contents : (old new : Lane) → Agrees (lane_counted new) new.queues → IsAlike (lane_log old) (lane_log new) → IsHybridLog (lane_log new)
    → SameContents (lane_log old) (lane_log new) → shard_marks new.shard ≡ shard_marks old.shard → StaysRight old new
lane_contents old new agrees alike fit same marks = record {
  agrees = agrees;
  numbered = numbered_of (lane_log new) fit;
  alike = record { frames = alike.frames; places = alike.places };
  store = λ j key. same key j;
  marks = marks;
}

use Rattle.std.proofs.Common.{◌≡◌}
use Rattle.hybrid.specs.Staging.{AreRight}
use Rattle.plans.specs.Memory.{AreAtHand}
use Rattle.plans.specs.Stops.{keys_looked_up}
use Rattle.plans.specs.Reading.{AreServed, HasMore, unread}
use Rattle.shards.specs.Devices.{IsReadAlone}
use Rattle.shards.specs.Shards.{logs_of}
use Rattle.plans.proofs.reading.plan_reading.Given as goal

abbrev pub invariant-loop-planned : goal.invariant-loop-planned
invariant-loop-planned g l = record {
  is_open : g.P.Parts.is_open l.parts;
  keeps : g.P.Parts.keeps l.fn.parts l.parts;
  same : g.P.Parts.part_of l.parts ≡ g.P.Parts.part_of l.fn.parts;
  failures : g.D.Device.failures l.device ≡ g.D.Device.failures l.fn.device;
  grows : HasMore l.fn.staged l.staged;
  alone : IsReadAlone g.D.Device.serves g.D.Device.releases g.D.Device.writes l.fn.device l.device;
  still : (r : _) → g.D.Device.serves l.fn.device r → g.D.Device.serves l.device r;
  right : AreRight l.fn.staged → AreServed g.D.Device.serves g.R.Shows.identity l.fn.device (logs_of (g.P.Parts.part_of l.fn.parts)) → AreRight l.staged;
  first : AreAtHand g.R.Shows.lends (g.P.Parts.stripes_of l.fn.parts) (logs_of (g.P.Parts.part_of l.fn.parts)) (keys_looked_up l.call) l.fn.staged → l.staged ≡ l.fn.staged;
}

abbrev pub decreases-loop-planned : goal.decreases-loop-planned
decreases-loop-planned g l = unread (g.P.Parts.stripes_of l.fn.parts) (logs_of (g.P.Parts.part_of l.parts)) l.staged

use Rattle.std.proofs.Common.{◌≡◌, ◌∷◌, []}
use Rattle.hybrid.specs.Staging.{AreRight}
use Rattle.plans.specs.Memory.{AreAtHand}
use Rattle.plans.specs.Reading.{AreServed, unread}
use Rattle.shards.specs.Shards.{logs_of}
use Rattle.plans.proofs.reading.read_value.Given as goal

abbrev pub invariant-loop-value : goal.invariant-loop-value
invariant-loop-value g l = record {
  is_open : g.P.Parts.is_open l.parts;
  keeps : g.P.Parts.keeps l.fn.parts l.parts;
  same : g.P.Parts.part_of l.parts ≡ g.P.Parts.part_of l.fn.parts;
  failures : g.D.Device.failures l.device ≡ g.D.Device.failures l.fn.device;
  still : (r : _) → g.D.Device.serves l.fn.device r → g.D.Device.serves l.device r;
  right : AreRight l.fn.staged → AreServed g.D.Device.serves g.R.Shows.identity l.fn.device (logs_of (g.P.Parts.part_of l.fn.parts)) → AreRight l.staged;
  first : AreAtHand g.R.Shows.lends (g.P.Parts.stripes_of l.fn.parts) (logs_of (g.P.Parts.part_of l.fn.parts)) (l.key ∷ []) l.fn.staged → l.staged ≡ l.fn.staged;
}

abbrev pub decreases-loop-value : goal.decreases-loop-value
decreases-loop-value g l = unread (g.P.Parts.stripes_of l.fn.parts) (logs_of (g.P.Parts.part_of l.parts)) l.staged

use Rattle.std.proofs.Common.{◌≡◌, ◌+◌, ◌≤◌, List, length}
use Rattle.hybrid.specs.Staging.{AreRight, StagedPage}
use Rattle.plans.specs.Reading.{AreRead, HasMore, ServesEach}
use Rattle.shards.specs.Devices.{IsReadAlone}
use Rattle.plans.proofs.reading.read_all.Given as goal

abbrev pub invariant-loop-wanted : goal.invariant-loop-wanted
invariant-loop-wanted g l = record {
  same : g.D.Device.failures l.device ≡ g.D.Device.failures l.fn.device;
  grows : HasMore l.fn.staged l.staged;
  once : g.D.Device.reads l.device + length l.receipts ≤ g.D.Device.reads l.fn.device + length l.fn.receipts;
  alone : IsReadAlone g.D.Device.serves g.D.Device.releases g.D.Device.writes l.fn.device l.device;
  still : (r : _) → g.D.Device.serves l.fn.device r → g.D.Device.serves l.device r;
  served : ServesEach g.D.Device.serves g.R.Shows.identity l.fn.device l.fn.receipts → ServesEach g.D.Device.serves g.R.Shows.identity l.device l.receipts;
  right : ServesEach g.D.Device.serves g.R.Shows.identity l.fn.device l.fn.receipts → AreRight l.fn.staged → AreRight l.staged;
  read : (later : List StagedPage) → AreRead l.receipts l.staged later → AreRead l.fn.receipts l.fn.staged later;
}

abbrev pub decreases-loop-wanted : goal.decreases-loop-wanted
decreases-loop-wanted g l = length l.receipts

use Rattle.std.proofs.Common.{◌≡◌, ◌≤◌, List, [], ℕ}
use Rattle.words.specs.Store.{Write}
use Rattle.transact.specs.Tables.{Became, stays}
use Rattle.shards.specs.Receipts.{kept_by}
use Rattle.shards.specs.Devices.{StillServes}
use Rattle.shards.specs.Shards.{SameWaits, logs_of, shard_meaning}
use Rattle.plans.specs.Lacking.{KeepRoom}
use Rattle.plans.specs.Reserving.{AreSharesOf}
use Rattle.plans.proofs.Shares.{IsMadeBelow}
use Rattle.plans.proofs.room.reserve_shares.Given as goal

abbrev pub invariant-loop-stripe : goal.invariant-loop-stripe
invariant-loop-stripe g l = record {
  is_open : g.P.Parts.is_open l.parts;
  keeps : g.P.Parts.keeps l.fn.parts l.parts;
  became : Became (shard_meaning g.R.Shows.is_steady) (g.P.Parts.stripes_of l.fn.parts) [] stays (g.P.Parts.part_of l.fn.parts) (g.P.Parts.part_of l.parts);
  waits : SameWaits (g.P.Parts.part_of l.fn.parts) (g.P.Parts.part_of l.parts);
  rooms : KeepRoom (logs_of (g.P.Parts.part_of l.fn.parts)) (logs_of (g.P.Parts.part_of l.parts));
  below : l.stripe ≤ g.P.Parts.stripes_of l.fn.parts;
  same : g.D.Device.failures l.device ≡ g.D.Device.failures l.fn.device;
  device : StillServes g.D.Device.serves g.D.Device.releases l.fn.device l.device;
  ahead : (j : ℕ) → l.stripe ≤ j → logs_of (g.P.Parts.part_of l.parts) j ≡ logs_of (g.P.Parts.part_of l.fn.parts) j;
  made : (ws : List Write) → AreSharesOf (g.P.Parts.stripes_of l.fn.parts) ws l.shares l.purpose
      → IsMadeBelow g.D.Device.wrote (kept_by g.R.Shows.identity g.R.Shows.shown) (g.P.Parts.stripes_of l.fn.parts) ws l.stripe
      (logs_of (g.P.Parts.part_of l.fn.parts)) l.fn.device (logs_of (g.P.Parts.part_of l.parts)) l.device;
}

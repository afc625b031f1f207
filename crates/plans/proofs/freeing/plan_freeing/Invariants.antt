use Rattle.std.proofs.Common.{◌≡◌, []}
use Rattle.hybrid.specs.Staging.{AreRight}
use Rattle.transact.specs.Tables.{Became, stays}
use Rattle.shards.specs.Freeing.{all_waiting}
use Rattle.shards.specs.Heard.{HasHeard}
use Rattle.shards.specs.Shards.{logs_of, shard_meaning, waits_of}
use Rattle.plans.specs.Lacking.{KeepRoom}
use Rattle.plans.proofs.Freed.{Lasts}
use Rattle.plans.proofs.freeing.plan_freeing.Given as goal

abbrev pub invariant-freed : goal.invariant-freed
invariant-freed g l = record {
  is_open : g.P.Parts.is_open l.parts;
  keeps : g.P.Parts.keeps l.fn.parts l.parts;
  is : g.S.Retires.is_of l.epochs l.hands.own;
  right : g.R.Shows.is_steady → AreRight l.fn.hands.staged → AreRight l.hands.staged;
  became : Became (shard_meaning g.R.Shows.is_steady) (g.P.Parts.stripes_of l.fn.parts) [] stays (g.P.Parts.part_of l.fn.parts) (g.P.Parts.part_of l.parts);
  rooms : KeepRoom (logs_of (g.P.Parts.part_of l.fn.parts)) (logs_of (g.P.Parts.part_of l.parts));
  lasts : Lasts (g.P.Parts.part_of l.fn.parts) (g.P.Parts.part_of l.parts);
  heard : HasHeard (g.S.Retires.knows l.fn.hands.own) (g.S.Retires.knows l.hands.own);
  same : g.D.Device.failures l.device ≡ g.D.Device.failures l.fn.device;
}

abbrev pub decreases-freed : goal.decreases-freed
decreases-freed g l = all_waiting (g.P.Parts.stripes_of l.fn.parts) (waits_of (g.P.Parts.part_of l.parts))

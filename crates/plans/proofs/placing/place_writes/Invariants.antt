use Rattle.std.proofs.Common.{ℕ, length}
use Rattle.std.specs.Prelude.{Option}
use Rattle.hybrid.specs.Writing.{AreFit}
use Rattle.transact.specs.Tables.{AreThere, Became, keys_written, touches}
use Rattle.hybrid.specs.HybridLog.{HybridLog}
use Rattle.shards.specs.declared.shard.Shard.{Shard}
use Rattle.shards.specs.Rooms.{HaveGrown}
use Rattle.shards.specs.Shards.{SameWaits, logs_of, shard_meaning}
use Rattle.plans.specs.Placing.{AllGoThere}
use Rattle.plans.proofs.placing.place_writes.Given as goal

abbrev pub invariant-loop-first : goal.invariant-loop-first
invariant-loop-first g l = record {
  is_open : g.P.Parts.is_open l.parts;
  keeps : g.P.Parts.keeps l.fn.parts l.parts;
  waits : SameWaits (g.P.Parts.part_of l.fn.parts) (g.P.Parts.part_of l.parts);
  targets : AllGoThere (g.P.Parts.stripes_of l.fn.parts) (logs_of (g.P.Parts.part_of l.parts)) l.left l.at;
  there : AreThere (g.P.Parts.stripes_of l.fn.parts) (g.P.Parts.part_of l.parts) (keys_written l.left);
  fits : AreFit l.left;
  became : (later : ℕ → Option (Shard _)) → Became (shard_meaning g.R.Shows.is_steady) (g.P.Parts.stripes_of l.fn.parts) l.left (touches l.left) (g.P.Parts.part_of l.parts) later
      → Became (shard_meaning g.R.Shows.is_steady) (g.P.Parts.stripes_of l.fn.parts) l.writes (touches l.writes) (g.P.Parts.part_of l.fn.parts) later;
  grown : (later : ℕ → Option HybridLog) → HaveGrown (g.P.Parts.stripes_of l.fn.parts) l.left (logs_of (g.P.Parts.part_of l.parts)) later
      → HaveGrown (g.P.Parts.stripes_of l.fn.parts) l.writes (logs_of (g.P.Parts.part_of l.fn.parts)) later;
}

abbrev pub decreases-loop-first : goal.decreases-loop-first
decreases-loop-first g l = length l.left

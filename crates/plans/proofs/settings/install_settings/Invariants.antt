use Rattle.std.proofs.Common.{ℕ, length}
use Rattle.std.specs.Prelude.{Option}
use Rattle.words.specs.Answers.{writes_set}
use Rattle.words.specs.Briefs.{pairs_of}
use Rattle.hybrid.specs.Writing.{AreFit}
use Rattle.transact.specs.Tables.{Became, touches}
use Rattle.hybrid.specs.HybridLog.{HybridLog}
use Rattle.shards.specs.declared.shard.Shard.{Shard}
use Rattle.shards.specs.Rooms.{AreRoomy, HaveGrown}
use Rattle.shards.specs.Shards.{SameWaits, logs_of, shard_meaning}
use Rattle.plans.proofs.settings.install_settings.Given as goal

abbrev pub invariant-loop-first : goal.invariant-loop-first
invariant-loop-first g l = record {
  is_open : g.P.Parts.is_open l.parts;
  keeps : g.P.Parts.keeps l.fn.parts l.parts;
  waits : SameWaits (g.P.Parts.part_of l.fn.parts) (g.P.Parts.part_of l.parts);
  room : AreRoomy (g.P.Parts.stripes_of l.fn.parts) (logs_of (g.P.Parts.part_of l.parts)) (writes_set (pairs_of l.left));
  fits : AreFit (writes_set (pairs_of l.left));
  became : (later : ℕ → Option (Shard _)) → Became (shard_meaning g.R.Shows.is_steady) (g.P.Parts.stripes_of l.fn.parts) (writes_set (pairs_of l.left)) (touches (writes_set (pairs_of l.left))) (g.P.Parts.part_of l.parts) later
      → Became (shard_meaning g.R.Shows.is_steady) (g.P.Parts.stripes_of l.fn.parts) (writes_set (pairs_of l.words)) (touches (writes_set (pairs_of l.words))) (g.P.Parts.part_of l.fn.parts) later;
  grown : (later : ℕ → Option HybridLog) → HaveGrown (g.P.Parts.stripes_of l.fn.parts) (writes_set (pairs_of l.left)) (logs_of (g.P.Parts.part_of l.parts)) later
      → HaveGrown (g.P.Parts.stripes_of l.fn.parts) (writes_set (pairs_of l.words)) (logs_of (g.P.Parts.part_of l.fn.parts)) later;
}

abbrev pub decreases-loop-first : goal.decreases-loop-first
decreases-loop-first g l = length l.left

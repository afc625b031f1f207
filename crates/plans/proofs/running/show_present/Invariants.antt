use Rattle.std.proofs.Common.{◌≡◌, take}
use Rattle.words.specs.Commands.{keys_of}
use Rattle.hybrid.specs.Staging.{AreRight}
use Rattle.transact.specs.Tables.{joined}
use Rattle.shards.specs.Shards.{logs_of, shard_meaning}
use Rattle.plans.specs.Placing.{WereLookedUp}
use Rattle.plans.specs.Running.{HasShown}
use Rattle.plans.proofs.running.show_present.Given as goal

abbrev pub invariant-loop-place : goal.invariant-loop-place
invariant-loop-place g l = record {
  is_open : g.P.Parts.is_open l.parts;
  keeps : g.P.Parts.keeps l.fn.parts l.parts;
  same : g.P.Parts.part_of l.parts ≡ g.P.Parts.part_of l.fn.parts;
  looked : WereLookedUp (g.P.Parts.stripes_of l.fn.parts) (logs_of (g.P.Parts.part_of l.fn.parts)) l.looked.items;
  shown : HasShown (g.R.Shows.is_honest × AreRight l.staged) (joined (shard_meaning g.R.Shows.is_steady) (g.P.Parts.stripes_of l.fn.parts) (g.P.Parts.part_of l.fn.parts)) (take l.place (keys_of l.command)) l.fn.shown l.shown;
}

use Rattle.std.proofs.Common.{◌≡◌, ◌++◌, length}
use Rattle.words.specs.Answers.{answers}
use Rattle.words.specs.Commands.{keys_of_all}
use Rattle.words.specs.Store.{written}
use Rattle.hybrid.specs.Staging.{AreRight}
use Rattle.hybrid.specs.Writing.{AreFit}
use Rattle.transact.specs.Tables.{AreThere, joined, keys_written}
use Rattle.shards.specs.Shards.{logs_of, shard_meaning}
use Rattle.plans.specs.Placing.{HaveTargets}
use Rattle.plans.specs.Sizes.{AreSized}
use Rattle.plans.proofs.placing.place_each.Given as goal

abbrev pub invariant-loop-command : goal.invariant-loop-command
invariant-loop-command g l = record {
  is_open : g.P.Parts.is_open l.parts;
  keeps : g.P.Parts.keeps l.fn.parts l.parts;
  same : g.P.Parts.part_of l.parts ≡ g.P.Parts.part_of l.fn.parts;
  keys : AreThere (g.P.Parts.stripes_of l.fn.parts) (g.P.Parts.part_of l.fn.parts) (keys_of_all l.left);
  sized : AreSized l.left;
  targets : HaveTargets (g.P.Parts.stripes_of l.fn.parts) (logs_of (g.P.Parts.part_of l.fn.parts)) l.placing.writes l.placing.targets.items;
  fits : AreFit l.placing.writes;
  there : AreThere (g.P.Parts.stripes_of l.fn.parts) (g.P.Parts.part_of l.fn.parts) (keys_written l.placing.writes);
  replies : g.R.Shows.is_honest × AreRight l.staged
      → l.replies.items ++ (answers (written (joined (shard_meaning g.R.Shows.is_steady) (g.P.Parts.stripes_of l.fn.parts) (g.P.Parts.part_of l.fn.parts)) l.placing.writes) l.left).0
      ≡ (answers (joined (shard_meaning g.R.Shows.is_steady) (g.P.Parts.stripes_of l.fn.parts) (g.P.Parts.part_of l.fn.parts)) l.commands).0;
  writes : g.R.Shows.is_honest × AreRight l.staged
      → l.placing.writes ++ (answers (written (joined (shard_meaning g.R.Shows.is_steady) (g.P.Parts.stripes_of l.fn.parts) (g.P.Parts.part_of l.fn.parts)) l.placing.writes) l.left).1
      ≡ (answers (joined (shard_meaning g.R.Shows.is_steady) (g.P.Parts.stripes_of l.fn.parts) (g.P.Parts.part_of l.fn.parts)) l.commands).1;
}

abbrev pub decreases-loop-command : goal.decreases-loop-command
decreases-loop-command g l = length l.left

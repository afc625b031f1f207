use Rattle.std.proofs.Common.{◌≡◌, List, length, true}
use Rattle.words.specs.Store.{Bytes, Write}
use Rattle.words.specs.Commands.{keys_of_all}
use Rattle.words.specs.History.{is_among}
use Rattle.hybrid.specs.HybridLog.{Kept}
use Rattle.hybrid.specs.Staging.{AreRight}
use Rattle.transact.specs.Tables.{AreThere, joined}
use Rattle.shards.specs.Shards.{logs_of, shard_meaning}
use Rattle.plans.specs.Stops.{HasFound, IsNeeded}
use Rattle.plans.proofs.find.find_commands.Given as goal

abbrev pub invariant-loop-command : goal.invariant-loop-command
invariant-loop-command g l = record {
  is_open : g.P.Parts.is_open l.parts;
  keeps : g.P.Parts.keeps l.fn.parts l.parts;
  same : g.P.Parts.part_of l.parts ≡ g.P.Parts.part_of l.fn.parts;
  lent : g.R.Shows.lends → l.cold ≡ l.fn.cold;
  there : AreThere (g.P.Parts.stripes_of l.fn.parts) (g.P.Parts.part_of l.fn.parts) (keys_of_all l.left);
  within : (key : Bytes) → is_among (keys_of_all l.left) key ≡ true → is_among (keys_of_all l.commands) key ≡ true;
  found : (cold : List Kept) (found : List Write)
      → HasFound (IsNeeded (g.R.Shows.is_honest × AreRight l.staged) (g.P.Parts.stripes_of l.fn.parts) (logs_of (g.P.Parts.part_of l.fn.parts)) (keys_of_all l.commands) l.staged) (g.R.Shows.is_honest × AreRight l.staged) (joined (shard_meaning g.R.Shows.is_steady) (g.P.Parts.stripes_of l.fn.parts) (g.P.Parts.part_of l.fn.parts)) (keys_of_all l.left) l.cold cold l.found found
      → HasFound (IsNeeded (g.R.Shows.is_honest × AreRight l.staged) (g.P.Parts.stripes_of l.fn.parts) (logs_of (g.P.Parts.part_of l.fn.parts)) (keys_of_all l.commands) l.staged) (g.R.Shows.is_honest × AreRight l.staged) (joined (shard_meaning g.R.Shows.is_steady) (g.P.Parts.stripes_of l.fn.parts) (g.P.Parts.part_of l.fn.parts)) (keys_of_all l.commands) l.fn.cold cold l.fn.found found;
}

abbrev pub decreases-loop-command : goal.decreases-loop-command
decreases-loop-command g l = length l.left

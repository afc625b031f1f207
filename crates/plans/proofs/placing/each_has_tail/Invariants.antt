use Rattle.std.proofs.Common.{◌≡◌, length}
use Rattle.transact.specs.Tables.{AreThere, keys_written}
use Rattle.shards.specs.Shards.{logs_of}
use Rattle.plans.specs.Placing.{HaveTails, HaveTargets, LeaveSpare}
use Rattle.plans.proofs.placing.each_has_tail.Given as goal

abbrev pub invariant-loop-first : goal.invariant-loop-first
invariant-loop-first g l = record {
  is_open : g.P.Parts.is_open l.parts;
  keeps : g.P.Parts.keeps l.fn.parts l.parts;
  same : g.P.Parts.part_of l.parts ≡ g.P.Parts.part_of l.fn.parts;
  there : AreThere (g.P.Parts.stripes_of l.fn.parts) (g.P.Parts.part_of l.fn.parts) (keys_written l.left);
  targets : HaveTargets (g.P.Parts.stripes_of l.fn.parts) (logs_of (g.P.Parts.part_of l.fn.parts)) l.left l.at;
  tails : HaveTails (g.P.Parts.stripes_of l.fn.parts) (logs_of (g.P.Parts.part_of l.fn.parts)) l.weight l.left l.at
      → HaveTails (g.P.Parts.stripes_of l.fn.parts) (logs_of (g.P.Parts.part_of l.fn.parts)) l.weight l.writes l.targets;
  spare : LeaveSpare (g.P.Parts.stripes_of l.fn.parts) (logs_of (g.P.Parts.part_of l.fn.parts)) l.left l.at
      → LeaveSpare (g.P.Parts.stripes_of l.fn.parts) (logs_of (g.P.Parts.part_of l.fn.parts)) l.writes l.targets;
}

abbrev pub decreases-loop-first : goal.decreases-loop-first
decreases-loop-first g l = length l.left

use Rattle.std.proofs.Common.{◌≡◌, ◌-◌, length}
use Rattle.shards.specs.Shards.{logs_of}
use Rattle.plans.specs.Placing.{GoThere}
use Rattle.plans.proofs.placing.add_targets.Given as goal

abbrev pub invariant-loop-write : goal.invariant-loop-write
invariant-loop-write g l = record {
  is_open : g.P.Parts.is_open l.parts;
  keeps : g.P.Parts.keeps l.fn.parts l.parts;
  same : g.P.Parts.part_of l.parts ≡ g.P.Parts.part_of l.fn.parts;
  targets : GoThere (g.P.Parts.stripes_of l.fn.parts) (logs_of (g.P.Parts.part_of l.fn.parts)) l.writes l.targets.items;
}

abbrev pub decreases-loop-write : goal.decreases-loop-write
decreases-loop-write g l = length l.writes - length l.targets.items

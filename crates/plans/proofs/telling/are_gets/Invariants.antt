use Rattle.std.proofs.Common.{length}
use Rattle.plans.specs.Telling.{AreGets}
use Rattle.plans.proofs.telling.are_gets.Given as goal

abbrev pub invariant-loop-first : goal.invariant-loop-first
invariant-loop-first l = record {
  all : AreGets l.left → AreGets l.commands;
  each : AreGets l.commands → AreGets l.left;
}

abbrev pub decreases-loop-first : goal.decreases-loop-first
decreases-loop-first l = length l.left

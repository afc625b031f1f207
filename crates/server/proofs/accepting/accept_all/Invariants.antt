use Rattle.std.proofs.Common.{◌≡◌, ◌≤◌, ◌-◌, false}
use Rattle.server.proofs.accepting.accept_all.Given as goal

abbrev pub invariant-loop-door : goal.invariant-loop-door
invariant-loop-door g l = record {
  well : l.door.failed ≡ false;
  most : l.door.came ≤ l.options.accept;
}

abbrev pub decreases-loop-door : goal.decreases-loop-door
decreases-loop-door g l = l.options.accept - l.door.came

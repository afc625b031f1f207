use Rattle.std.proofs.Common.{◌≡◌, false}
use Rattle.server.proofs.accepting.accept.Given as goal

abbrev pub invariant-loop : goal.invariant-loop
invariant-loop g l = record {
  well : l.door.failed ≡ false;
  came : l.door.came ≡ l.initial.door.came;
}

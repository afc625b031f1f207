use Rattle.hybrid.specs.HybridLog.{HasRoom}
use Rattle.store_tests.proofs.logs.Shelf.clean_with.Given as goal

abbrev pub invariant-loop : goal.invariant-loop
invariant-loop g l = HasRoom l.self.stripe l.room.weight

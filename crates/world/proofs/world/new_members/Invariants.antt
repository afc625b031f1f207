use Rattle.world.specs.Tables.{AreNew}
use Rattle.world.proofs.world.new_members.Given as goal

abbrev pub invariant-loop : goal.invariant-loop
invariant-loop l = AreNew l.counter l.members.items

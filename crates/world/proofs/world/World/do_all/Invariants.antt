use Rattle.std.proofs.Common.{length}
use Rattle.world_model.specs.States.{State}
use Rattle.world_model.specs.Turns.{Turns}
use Rattle.world.specs.Tables.{IsWorld, state_of}
use Rattle.world.proofs.world.World.do_all.Given as goal

abbrev pub invariant-loop-event : goal.invariant-loop-event
invariant-loop-event l = record {
  world : IsWorld l.self;
  leads : (after : State) → Turns (state_of l.self) l.left after → Turns (state_of l.fn.self) l.fn.events after;
}

abbrev pub decreases-loop-event : goal.decreases-loop-event
decreases-loop-event l = length l.left

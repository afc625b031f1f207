use Rattle.world_model.specs.Resting.{events_left}
use Rattle.world.specs.Tables.{IsWorld, state_of}
use Rattle.world.proofs.Finishing.{Moved}
use Rattle.world.proofs.world.World.come_to_rest.Given as goal

abbrev pub invariant-loop-event : goal.invariant-loop-event
invariant-loop-event l = record {
  world : IsWorld l.self;
  so : Moved (state_of l.fn.self) (state_of l.self);
}

abbrev pub decreases-loop-event : goal.decreases-loop-event
decreases-loop-event l = events_left (state_of l.self)

use Rattle.std.proofs.Common.{length, ◌≤◌, ◌+◌}
use Rattle.world_model.specs.Resting.{events_left}
use Rattle.world.specs.Tables.{IsWorld, state_of}
use Rattle.schedules.proofs.Ending.{GoesOn}
use Rattle.schedules.proofs.traces.follow_to_rest.Given as goal

abbrev pub invariant-loop-event : goal.invariant-loop-event
invariant-loop-event l = record {
  world : IsWorld l.world;
  few : l.number ≤ length l.lines.items + 2;
  goes : GoesOn l.fn.first l.number (state_of l.fn.world) (state_of l.world) l.initial.lines.items l.lines.items;
}

abbrev pub decreases-loop-event : goal.decreases-loop-event
decreases-loop-event l = events_left (state_of l.world)

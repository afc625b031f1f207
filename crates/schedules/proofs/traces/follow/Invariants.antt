use Rattle.std.proofs.Common.{List, ℕ, length, ◌≤◌, ◌+◌, ◌-◌, ◌++◌}
use Rattle.words.specs.Store.{Bytes}
use Rattle.world_model.specs.States.{State}
use Rattle.world.specs.Tables.{IsWorld, state_of}
use Rattle.schedules.specs.Traces.{IsTrace}
use Rattle.schedules.proofs.traces.follow.Given as goal

abbrev pub invariant-loop-event : goal.invariant-loop-event
invariant-loop-event l = record {
  world : IsWorld l.world;
  fewer : length l.left ≤ length l.fn.events;
  leads : (after : State) (rest : Bytes) → IsTrace (length l.fn.events - length l.left + 2) (state_of l.world) l.left after rest
      → IsTrace 2 (state_of l.fn.world) l.fn.events after (l.lines.items ++ rest);
}

abbrev pub decreases-loop-event : goal.decreases-loop-event
decreases-loop-event l = length l.left

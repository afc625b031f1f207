use Rattle.std.proofs.Common.{ℕ, ◌<◌}
use Rattle.world.specs.Still.{IsStill}
use Rattle.world.specs.Tables.{state_of}
use Rattle.world.proofs.world.World.next_event.Given as goal

abbrev pub invariant-loop-client : goal.invariant-loop-client
invariant-loop-client l = (c : ℕ) → c < l.client → IsStill (state_of l.self) c

use Rattle.std.proofs.Common.{◌≡◌, ◌<◌, ℕ, List, Option, length}
use Rattle.world_model.specs.States.{log_at}
use Rattle.world_log.specs.Freeing.{HasFreed, StaysFull, waiting_in}
use Rattle.world_log.specs.Stripes.{holders_of, states_of}
use Rattle.world_log.proofs.logs.WorldLog.retire_all.Given as goal

abbrev pub invariant-all : goal.invariant-all
invariant-all l = record {
  freed : (stays : List (Option ℕ)) → HasFreed stays l.i l.fn.self l.self;
  within : l.i < length (holders_of l.self.stripes);
  same : waiting_in l.self.stripes ≡ waiting_in l.fn.self.stripes;
  full : StaysFull l.i l.fn.self l.self;
}

abbrev pub decreases-all : goal.decreases-all
decreases-all l = length (log_at (states_of l.self.stripes) l.i).unlinked

use Rattle.std.proofs.Common.{◌≡◌, ◌<◌, length}
use Rattle.world_model.specs.States.{log_at}
use Rattle.world_log.specs.Freeing.{HasFreed, StaysFull, waiting_in}
use Rattle.world_log.specs.Stripes.{holders_of, states_of}
use Rattle.world_log.proofs.logs.WorldLog.drain_all.Given as goal

abbrev pub invariant-all : goal.invariant-all
invariant-all l = record {
  freed : HasFreed l.stays l.i l.fn.self l.self;
  within : l.i < length (holders_of l.self.stripes);
  same : waiting_in l.self.stripes ≡ waiting_in l.fn.self.stripes;
  full : StaysFull l.i l.fn.self l.self;
  unlinked : (log_at (states_of l.self.stripes) l.i).unlinked ≡ (log_at (states_of l.fn.self.stripes) l.i).unlinked;
}

abbrev pub decreases-all : goal.decreases-all
decreases-all l = length (log_at (states_of l.self.stripes) l.i).retired

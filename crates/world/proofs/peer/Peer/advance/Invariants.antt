use Rattle.std.proofs.Common.{length}
use Rattle.world_model.specs.States.{ClientState}
use Rattle.world_model.specs.Advancing.{Advances}
use Rattle.world.specs.Peers.{IsServing, IsSteady, progress_of}
use Rattle.world.proofs.peer.Peer.advance.Given as goal

abbrev pub invariant-loop : goal.invariant-loop
invariant-loop l = record {
  goes_on : (new : ClientState) → Advances l.self (l.self).phase new → Advances l.initial.self (l.initial.self).phase new;
  serving : IsServing (l.self).phase;
  steady : IsSteady l.self;
}

abbrev pub decreases-loop : goal.decreases-loop
decreases-loop l = length (progress_of (l.self).phase).unread

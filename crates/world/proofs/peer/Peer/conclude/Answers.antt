use Rattle.std.proofs.Common.{rules}
use Rattle.world.proofs.peer.Peer.conclude.Goals as goal

pub returns-clause-concluded : goal.returns-clause-concluded
returns-clause-concluded c = search rules

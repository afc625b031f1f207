use Rattle.std.proofs.Common.{rules}
use Rattle.world.proofs.peer.Peer.hear.Goals as goal

pub returns-clause-heard : goal.returns-clause-heard
returns-clause-heard c = search rules

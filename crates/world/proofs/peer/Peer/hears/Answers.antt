use Rattle.std.proofs.Common.{rules}
use Rattle.world.proofs.peer.Peer.hears.Goals as goal

pub returns-after-matches : goal.returns-after-matches
returns-after-matches c = search rules

use Rattle.std.proofs.Common.{rules}
use Rattle.world.proofs.watched.watch_key.Goals as goal

pub returns : goal.returns
returns c = search rules

use Rattle.std.proofs.Common.{rules}
use Rattle.gates.proofs.held.Held.commit.Goals as goal

pub returns : goal.returns
returns g c = search rules

use Rattle.std.proofs.Common.{rules}
use Rattle.connection.proofs.state.State.resume.Goals as goal

pub returns : goal.returns
returns c = search rules

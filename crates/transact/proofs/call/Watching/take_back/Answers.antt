use Rattle.std.proofs.Common.{rules}
use Rattle.transact.proofs.call.Watching.take_back.Goals as goal

pub returns : goal.returns
returns c = search rules

use Rattle.std.proofs.Common.{rules}
use Rattle.connection.proofs.serving.Ended.number.Goals as goal

pub returns-in-ReadFailed : goal.returns-in-ReadFailed
returns-in-ReadFailed c = search rules

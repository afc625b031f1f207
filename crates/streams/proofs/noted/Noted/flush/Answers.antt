use Rattle.std.proofs.Common.{rules}
use Rattle.streams.proofs.noted.Noted.flush.Goals as goal

pub returns-in-Some-clause-told : goal.returns-in-Some-clause-told
returns-in-Some-clause-told g c = search rules

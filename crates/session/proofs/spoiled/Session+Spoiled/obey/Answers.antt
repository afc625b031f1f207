use Rattle.std.proofs.Common.{rules}
use Rattle.session.proofs.spoiled.Session+Spoiled.obey.Goals as goal

pub returns : goal.returns
returns c = search rules

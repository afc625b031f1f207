use Rattle.std.proofs.Common.{rules}
use Rattle.device.proofs.faulty.Faulty.next_fails.Goals as goal

pub returns-clause-fails : goal.returns-clause-fails
returns-clause-fails g c = search rules

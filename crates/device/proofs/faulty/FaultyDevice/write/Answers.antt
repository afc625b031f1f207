use Rattle.std.proofs.Common.{rules}
use Rattle.device.proofs.faulty.FaultyDevice.write.Goals as goal

pub returns-clause-counted : goal.returns-clause-counted
returns-clause-counted g c = search rules

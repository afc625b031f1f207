use Rattle.std.proofs.Common.{rules}
use Rattle.device.proofs.memory.MemoryDeviceDevice.read.Goals as goal

pub returns-clause-page : goal.returns-clause-page
returns-clause-page c = search rules

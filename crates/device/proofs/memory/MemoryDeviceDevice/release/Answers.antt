use Rattle.std.proofs.Common.{rules}
use Rattle.device.proofs.memory.MemoryDeviceDevice.release.Goals as goal

pub returns : goal.returns
returns c = search rules

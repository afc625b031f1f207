use Rattle.std.proofs.Common.{rules}
use Rattle.device.proofs.memory.MemoryDeviceDevice.write.Goals as goal

pub returns-in-Some-clause-shown : goal.returns-in-Some-clause-shown
returns-in-Some-clause-shown c = search rules

pub returns-in-None-clause-refused : goal.returns-in-None-clause-refused
returns-in-None-clause-refused c = search rules

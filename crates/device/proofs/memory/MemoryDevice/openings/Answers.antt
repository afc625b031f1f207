use Rattle.std.proofs.Common.{rules}
use Rattle.device.proofs.memory.MemoryDevice.openings.Goals as goal

pub returns : goal.returns
returns c = search rules

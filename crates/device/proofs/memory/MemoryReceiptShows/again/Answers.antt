use Rattle.std.proofs.Common.{rules}
use Rattle.device.proofs.memory.MemoryReceiptShows.again.Goals as goal

pub returns-clause-shown : goal.returns-clause-shown
returns-clause-shown c = search rules

pub returns-clause-identity : goal.returns-clause-identity
returns-clause-identity c = search rules

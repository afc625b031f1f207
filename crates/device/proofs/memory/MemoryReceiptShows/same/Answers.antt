use Rattle.std.proofs.Common.{rules}
use Rattle.device.proofs.memory.MemoryReceiptShows.same.Goals as goal

pub returns-clause-only_copies : goal.returns-clause-only_copies
returns-clause-only_copies c = search rules

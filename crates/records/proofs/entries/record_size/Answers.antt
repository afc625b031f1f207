use Rattle.std.proofs.Common.{rules}
use Rattle.records.proofs.entries.record_size.Goals as goal

pub returns : goal.returns
returns c = search rules

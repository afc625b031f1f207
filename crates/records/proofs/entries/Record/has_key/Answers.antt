use Rattle.std.proofs.Common.{rules}
use Rattle.records.proofs.entries.Record.has_key.Goals as goal

pub returns : goal.returns
returns c = search rules

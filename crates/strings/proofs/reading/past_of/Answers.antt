use Rattle.std.proofs.Common.{rules}
use Rattle.strings.proofs.reading.past_of.Goals as goal

pub returns-then-end-lt0 : goal.returns-then-end-lt0
returns-then-end-lt0 c = search rules

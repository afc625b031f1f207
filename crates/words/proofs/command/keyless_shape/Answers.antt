use Rattle.std.proofs.Common.{rules}
use Rattle.words.proofs.command.keyless_shape.Goals as goal

pub returns-then-is_named-4 : goal.returns-then-is_named-4
returns-then-is_named-4 c = search rules

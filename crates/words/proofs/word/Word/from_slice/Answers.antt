use Rattle.std.proofs.Common.{rules}
use Rattle.words.proofs.word.Word.from_slice.Goals as goal

pub returns-in-Ok-clause-bytes : goal.returns-in-Ok-clause-bytes
returns-in-Ok-clause-bytes c = search rules

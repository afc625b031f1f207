use Rattle.std.proofs.Common.{rules}
use Rattle.words.proofs.word.Words.as_slice.Goals as goal

pub returns-clause-words : goal.returns-clause-words
returns-clause-words c = search rules

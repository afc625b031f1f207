use Rattle.std.proofs.Common.{rules}
use Rattle.words.proofs.word.Words.restart.Goals as goal

pub returns : goal.returns
returns c = search rules

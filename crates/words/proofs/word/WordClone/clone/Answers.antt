use Rattle.std.proofs.Common.{rules}
use Rattle.words.proofs.word.WordClone.clone.Goals as goal

pub returns : goal.returns
returns c = search rules

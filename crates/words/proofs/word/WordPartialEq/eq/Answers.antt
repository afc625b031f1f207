use Rattle.std.proofs.Common.{rules}
use Rattle.words.proofs.word.WordPartialEq.eq.Goals as goal

pub returns : goal.returns
returns c = search rules

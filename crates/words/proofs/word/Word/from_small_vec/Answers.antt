use Rattle.std.proofs.Common.{rules}
use Rattle.words.proofs.word.Word.from_small_vec.Goals as goal

pub returns : goal.returns
returns c = search rules

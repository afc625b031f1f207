use Rattle.std.proofs.Common.{rules}
use Rattle.words.proofs.word.Words.push.Goals as goal

pub returns-clause-ok : goal.returns-clause-ok
returns-clause-ok c = search rules

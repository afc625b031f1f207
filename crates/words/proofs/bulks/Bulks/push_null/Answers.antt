use Rattle.std.proofs.Common.{rules}
use Rattle.words.proofs.SpelledValues.{spells-null}
use Rattle.words.proofs.bulks.Bulks.push_null.Goals as goal

pub invariant_of-self-2 : goal.invariant_of-self-2
invariant_of-self-2 c =
    rw c.of.ensures
    (spells-null _ _ _ _ c.self.invariant (search rules))

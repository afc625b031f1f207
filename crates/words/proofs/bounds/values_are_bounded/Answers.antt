use Rattle.words.proofs.Bounded.{after_bounded}
use Rattle.words.proofs.bounds.values_are_bounded.Goals as goal

pub returns : goal.returns
returns c = after_bounded

use Rattle.words.proofs.Bounded.{outcome_bounded}
use Rattle.words.proofs.bounds.writes_are_bounded.Goals as goal

pub returns : goal.returns
returns c = outcome_bounded

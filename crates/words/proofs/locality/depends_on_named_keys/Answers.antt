use Rattle.words.proofs.Named.{outcome_same}
use Rattle.words.proofs.locality.depends_on_named_keys.Goals as goal

pub returns : goal.returns
returns c = outcome_same

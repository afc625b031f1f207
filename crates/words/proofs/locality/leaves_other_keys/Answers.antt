use Rattle.words.proofs.Named.{after_leaves_all}
use Rattle.words.proofs.locality.leaves_other_keys.Goals as goal

pub returns : goal.returns
returns c = after_leaves_all

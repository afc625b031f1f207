use Rattle.words.proofs.Named.{IsPart-leaves}
use Rattle.words.proofs.locality.leaves_other_stripes.Goals as goal

pub returns : goal.returns
returns c = IsPart-leaves

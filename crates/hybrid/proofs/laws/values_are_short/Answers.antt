use Rattle.hybrid.proofs.Values.{values-short}
use Rattle.hybrid.proofs.laws.values_are_short.Goals as goal

pub returns : goal.returns
returns c = values-short

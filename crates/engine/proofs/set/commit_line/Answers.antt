use Rattle.std.proofs.Common.{refl}
use Rattle.engine.proofs.set.commit_line.Goals as goal

pub commit-requires-clause-place : goal.commit-requires-clause-place
commit-requires-clause-place g c = (refl, c.requires.place)

use Rattle.std.proofs.Common.{length}
use Rattle.plans.proofs.settings.+gives.Given as goal

abbrev pub decreases-gives : goal.decreases-gives
decreases-gives l = length l.words.now

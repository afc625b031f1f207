use Rattle.std.proofs.Common.{length}
use Rattle.transact.proofs.weight.+fit_in.Given as goal

abbrev pub decreases-fit_in : goal.decreases-fit_in
decreases-fit_in l = length l.words.now

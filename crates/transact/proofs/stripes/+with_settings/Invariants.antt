use Rattle.std.proofs.Common.{length}
use Rattle.transact.proofs.stripes.+with_settings.Given as goal

abbrev pub decreases-with_settings : goal.decreases-with_settings
decreases-with_settings l = length l.words.now

use Rattle.std.proofs.Common.{length}
use Rattle.words.proofs.shapes.+add_settings.Given as goal

abbrev pub decreases-add_settings : goal.decreases-add_settings
decreases-add_settings l = length l.words.now

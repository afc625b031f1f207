use Rattle.std.proofs.Common.{length}
use Rattle.words.proofs.command.+are_settings.Given as goal

abbrev pub decreases-are_settings : goal.decreases-are_settings
decreases-are_settings l = length l.words.now

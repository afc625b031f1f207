use Rattle.std.proofs.Common.{length}
use Rattle.words.proofs.command.+are_settings_bounded.Given as goal

abbrev pub decreases-are_settings_bounded : goal.decreases-are_settings_bounded
decreases-are_settings_bounded l = length l.settings.now

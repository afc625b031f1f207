use Rattle.std.proofs.Common.{length}
use Rattle.words.proofs.command.+are_keys_bounded.Given as goal

abbrev pub decreases-are_keys_bounded : goal.decreases-are_keys_bounded
decreases-are_keys_bounded l = length l.keys.now

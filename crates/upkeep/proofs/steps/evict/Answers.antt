use Rattle.std.proofs.Common.{rules}
use Rattle.upkeep.proofs.steps.evict.Goals as goal

pub returns-then-not-is_short_of_frames-clause-told : goal.returns-then-not-is_short_of_frames-clause-told
returns-then-not-is_short_of_frames-clause-told g c = search rules

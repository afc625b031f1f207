use Rattle.words.proofs.Named.{dirty_later}
use Rattle.words.proofs.locality.stays_dirty.Goals as goal

pub returns : goal.returns
returns c = dirty_later

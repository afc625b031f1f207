use Rattle.words.proofs.Named.{watches_later}
use Rattle.words.proofs.locality.stays_watched.Goals as goal

pub returns : goal.returns
returns c = watches_later

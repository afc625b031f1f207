use Rattle.words.proofs.Named.{due_later}
use Rattle.words.proofs.locality.stays_due.Goals as goal

pub returns : goal.returns
returns c = due_later

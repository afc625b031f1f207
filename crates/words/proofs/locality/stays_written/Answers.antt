use Rattle.words.proofs.Named.{written_leaves_stripe}
use Rattle.words.proofs.locality.stays_written.Goals as goal

pub returns : goal.returns
returns c = written_leaves_stripe

use Rattle.words.proofs.Named.{extends_later}
use Rattle.words.proofs.locality.still_extends.Goals as goal

pub returns : goal.returns
returns c = extends_later

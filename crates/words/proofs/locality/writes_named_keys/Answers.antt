use Rattle.words.proofs.Named.{writes_none}
use Rattle.words.proofs.locality.writes_named_keys.Goals as goal

pub returns : goal.returns
returns c = writes_none

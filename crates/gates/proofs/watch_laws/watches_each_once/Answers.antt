use Rattle.gates.proofs.Watched.{watched_once}
use Rattle.gates.proofs.watch_laws.watches_each_once.Goals as goal

pub returns : goal.returns
returns c = λ pairs operation position are. watched_once operation pairs position are

use Rattle.gates.proofs.Watched.{watches_after}
use Rattle.gates.proofs.watch_laws.own_watches_after_entry.Goals as goal

pub returns : goal.returns
returns c = watches_after c.laws.ensures

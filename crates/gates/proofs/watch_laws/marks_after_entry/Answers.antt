use Rattle.gates.proofs.Watched.{mark_entry}
use Rattle.gates.proofs.watch_laws.marks_after_entry.Goals as goal

pub returns : goal.returns
returns c = mark_entry

use Rattle.gates.proofs.Watched.{mark_commits}
use Rattle.gates.proofs.watch_laws.own_marks_after_entry.Goals as goal

pub returns : goal.returns
returns c = λ entry before pairs key are. mark_commits entry before entry.session pairs key are

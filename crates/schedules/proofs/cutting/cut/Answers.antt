use Rattle.std.proofs.Common.{rules}
use Rattle.schedules.proofs.Cuts.{uncut_by, cut_by}
use Rattle.schedules.proofs.cutting.cut.Goals as goal

pub returns-in_err-at : goal.returns-in_err-at
returns-in_err-at c = rw c.from_residual.ensures (uncut_by c.args.byte c.args.text.now c.in_err-at.ensures)

pub returns : goal.returns
returns c = let found = c.in_ok-at.ensures in cut_by c.args.byte c.args.text.now c.in_ok-at.at found.0.high found.0.before found.1

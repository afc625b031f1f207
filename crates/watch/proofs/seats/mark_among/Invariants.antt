use Rattle.std.proofs.Common.{◌≡◌, drop}
use Rattle.watch.specs.Marked.{mark_among}
use Rattle.watch.proofs.seats.mark_among.Given as goal

abbrev pub invariant-loop-mark : goal.invariant-loop-mark
invariant-loop-mark l = mark_among (drop l.mark-index l.marks) l.seat ≡ mark_among l.marks l.seat

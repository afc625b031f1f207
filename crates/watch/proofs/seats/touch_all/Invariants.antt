use Rattle.std.proofs.Common.{◌≡◌}
use Rattle.watch.proofs.Changes.{written_up_to}
use Rattle.watch.proofs.seats.touch_all.Given as goal

abbrev pub invariant-loop-mark : goal.invariant-loop-mark
invariant-loop-mark l = l.mark-items ≡ written_up_to l.mark-index l.initial.mark-items

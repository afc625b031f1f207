use Rattle.std.proofs.Common.{◌≡◌, ◌≤◌, ◌+◌}
use Rattle.sockets.proofs.pausing.pause.Given as goal

abbrev pub invariant-loop-left : goal.invariant-loop-left
invariant-loop-left g l = record {
  within : l.left ≤ 20;
  asked : g.A.Awaited.asked l.cleaner + l.left ≡ g.A.Awaited.asked l.initial.cleaner + 20;
  told : g.A.Awaited.told l.cleaner + l.left ≡ g.A.Awaited.told l.initial.cleaner + 20;
  waited : g.A.Awaited.waited l.cleaner + l.left ≡ g.A.Awaited.waited l.initial.cleaner + 20;
}

abbrev pub decreases-loop-left : goal.decreases-loop-left
decreases-loop-left g l = l.left

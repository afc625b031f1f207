use Rattle.std.proofs.Common.{◌≡◌, ◌-◌, ◌≤◌, take}
use Rattle.words.proofs.order.order.Given as goal

-- what was met is equal
abbrev pub invariant-loop-from : goal.invariant-loop-from
invariant-loop-from l = (l.from ≤ l.both) × (take l.from l.a ≡ take l.from l.b)

abbrev pub decreases-loop-from : goal.decreases-loop-from
decreases-loop-from l = l.both - l.from

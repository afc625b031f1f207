use Rattle.std.proofs.Common.{◌≡◌, ◌+◌, ◌≤◌, length}
use Rattle.words.specs.declared.limits.TheConstants.{WEIGHT_MAX}
use Rattle.words.specs.Store.{weight}
use Rattle.strings.proofs.writes.weight_within.Given as goal

abbrev pub invariant-loop-write : goal.invariant-loop-write
invariant-loop-write l = record { sum : l.sum + weight l.rest ≡ weight l.writes; light : l.sum ≤ WEIGHT_MAX }

abbrev pub decreases-loop-write : goal.decreases-loop-write
decreases-loop-write l = length l.rest

use Rattle.std.proofs.Common.{◌≡◌, length}
use Rattle.words.specs.Store.{Store, written}
use Rattle.strings.proofs.writes.newest.Given as goal

abbrev pub invariant-loop-write : goal.invariant-loop-write
invariant-loop-write l = (store : Store) → written store l.writes l.key ≡ written store l.rest l.key

abbrev pub decreases-loop-write : goal.decreases-loop-write
decreases-loop-write l = length l.rest

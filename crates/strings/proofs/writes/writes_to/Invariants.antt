use Rattle.std.proofs.Common.{◌≡◌, drop}
use Rattle.words.specs.Store.{writes_key}
use Rattle.strings.proofs.writes.writes_to.Given as goal

abbrev pub invariant-loop-write : goal.invariant-loop-write
invariant-loop-write l = writes_key (drop l.write-index l.writes) l.key ≡ writes_key l.writes l.key

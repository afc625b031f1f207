use Rattle.std.proofs.Common.{◌≡◌, drop}
use Rattle.words.specs.Stripes.{hash_onto, hash_of}
use Rattle.words.proofs.hash.hash_of.Given as goal

abbrev pub invariant-loop-byte : goal.invariant-loop-byte
invariant-loop-byte l = hash_onto l.hash (drop l.byte-index l.key) ≡ hash_of l.key

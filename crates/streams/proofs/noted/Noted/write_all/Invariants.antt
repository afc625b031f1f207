use Rattle.std.proofs.Common.{◌≡◌, ◌++◌, List, ℕ, length}
use Rattle.std.specs.Io.KnownBytes.{Appends}
use Rattle.streams.specs.Streams.{stream_of, told_of, reads_of}
use Rattle.streams.proofs.noted.Noted.write_all.Given as goal

abbrev pub invariant-loop-rest : goal.invariant-loop-rest
invariant-loop-rest g l =
    ((sent : List ℕ) × Appends (g.S.Write.contents (stream_of l.initial.self)) (g.S.Write.contents (stream_of l.self)) sent × (l.bytes ≡ sent ++ l.rest))
    × (told_of l.self ≡ told_of l.initial.self)
    × (reads_of l.self ≡ reads_of l.initial.self)

abbrev pub decreases-loop-rest : goal.decreases-loop-rest
decreases-loop-rest g l = length l.rest

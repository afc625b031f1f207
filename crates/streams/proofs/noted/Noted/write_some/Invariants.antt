use Rattle.std.proofs.Common.{◌≡◌}
use Rattle.std.specs.Io.KnownBytes.{Keeps}
use Rattle.streams.specs.Streams.{stream_of, told_of, reads_of}
use Rattle.streams.proofs.noted.Noted.write_some.Given as goal

abbrev pub invariant-loop-written : goal.invariant-loop-written
invariant-loop-written g l =
    Keeps (g.S.Write.contents (stream_of l.initial.self)) (g.S.Write.contents (stream_of l.self))
    × (told_of l.self ≡ told_of l.initial.self)
    × (reads_of l.self ≡ reads_of l.initial.self)

abbrev pub decreases-loop-written : goal.decreases-loop-written
decreases-loop-written g l = l.self.observed.interruptions

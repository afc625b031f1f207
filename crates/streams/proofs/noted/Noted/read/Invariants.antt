use Rattle.std.proofs.Common.{◌≡◌}
use Rattle.std.specs.Io.KnownBytes.{Keeps}
use Rattle.streams.specs.Streams.{stream_of, told_of, reads_of}
use Rattle.streams.proofs.noted.Noted.read.Given as goal

abbrev pub invariant-loop-input : goal.invariant-loop-input
invariant-loop-input g l =
    Keeps (g.S.Read.remaining (stream_of l.initial.self)) (g.S.Read.remaining (stream_of l.self))
    × (told_of l.self ≡ told_of l.initial.self)
    × (reads_of l.self ≡ reads_of l.initial.self)

abbrev pub decreases-loop-input : goal.decreases-loop-input
decreases-loop-input g l = l.self.observed.interruptions

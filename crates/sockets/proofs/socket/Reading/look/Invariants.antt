use Rattle.std.proofs.Common.{◌≡◌, None}
use Rattle.std.specs.Io.KnownBytes.{Keeps}
use Rattle.sockets.specs.Sockets.{source_of, asked_of}
use Rattle.sockets.specs.SystemCalls.{WerePutOff}
use Rattle.std.proofs.Common.{length}
use Rattle.sockets.proofs.socket.Reading.look.Given as goal

abbrev pub invariant-loop-looks : goal.invariant-loop-looks
invariant-loop-looks g l = record {
  cleaner : l.self.cleaner ≡ l.initial.self.cleaner;
  well : l.self.failed ≡ None;
  bytes : Keeps (g.S.Read.remaining (source_of l.initial.self)) (g.S.Read.remaining (source_of l.self));
  calls : WerePutOff (length l.buffer) (asked_of l.initial.self) (asked_of l.self);
}

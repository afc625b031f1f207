use Rattle.std.proofs.Common.{◌≡◌, ℕ, List, [], ◌∷◌}
use Rattle.std.specs.Io.KnownBytes.{Appends, Consumes}
use Rattle.words.specs.Stream.{front, Part}
use Rattle.engine.specs.Passes.{knows, Rests, stripe_count}
use Rattle.engine.specs.Calls.{promises_of}
use Rattle.connection.specs.Clients.{IsOpen, mode_of}
use Rattle.streams.specs.Streams.{stream_of, told_of, reads_of}
use Rattle.connection.specs.Served.{Attends, Conversing}
use Rattle.connection.proofs.serving.converse.Given as goal

abbrev pub invariant-loop-ended : goal.invariant-loop-ended
invariant-loop-ended g l = record {
  talk : (fed said : List ℕ)
      × Consumes (g.R.Read.remaining (stream_of l.initial.reader)) (g.R.Read.remaining (stream_of l.reader)) fed
      × Appends (g.W.Write.contents (stream_of l.initial.writer)) (g.W.Write.contents (stream_of l.writer)) said
      × Conversing (promises_of g.D.Receipt.Shows.is_steady g.D.Receipt.Shows.lends (stripe_count l.initial.store.engine.now)) (knows g.D.Device.failures l.initial.pass) (knows g.D.Device.failures l.pass) fed l.talk.client said;
  waits : front (l.talk.client).unread ≡ Part;
  is_open : IsOpen (mode_of (l.talk.client).stage);
  empty : l.talk.out.items ≡ [];
  words : l.talk.words ≡ [] ∷ [];
  room : l.talk.room.items ≡ [];
  reader_told : told_of l.reader ≡ told_of l.initial.reader;
  writer_told : told_of l.writer ≡ told_of l.initial.writer;
  rests : Rests g.D.Receipt.Shows.is_steady l.initial.store.engine.now l.pass;
  attends : Attends (knows g.D.Device.failures l.pass) l.talk.client;
}

abbrev pub decreases-loop-ended : goal.decreases-loop-ended
decreases-loop-ended g l = reads_of l.reader

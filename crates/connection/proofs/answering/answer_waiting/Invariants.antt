use Rattle.std.proofs.Common.{◌≡◌, ◌≤◌, ◌+◌, ℕ, List, [], ◌++◌}
use Rattle.std.specs.Io.KnownBytes.{Appends, Consumes}
use Rattle.engine.specs.Passes.{Known, knows, Rests, stripe_count}
use Rattle.engine.specs.Calls.{promises_of}
use Rattle.streams.specs.Streams.{stream_of, told_of, reads_of}
use Rattle.connection.specs.Served.{Attends, Conversing}
use Rattle.connection.proofs.answering.answer_waiting.Given as goal

abbrev pub invariant-loop-paused : goal.invariant-loop-paused
invariant-loop-paused g l = record {
  talk :
      (was : Known) (fed before : List ℕ)
      → Conversing (promises_of g.D.Receipt.Shows.is_steady g.D.Receipt.Shows.lends (stripe_count l.initial.store.engine.now)) was (knows g.D.Device.failures l.initial.pass) fed l.initial.talk.client (before ++ l.initial.talk.out.items)
      → (bytes sent : List ℕ) × Consumes (g.R.Read.remaining (stream_of l.initial.reader)) (g.R.Read.remaining (stream_of l.reader)) bytes
      × Appends (g.W.Write.contents (stream_of l.initial.writer)) (g.W.Write.contents (stream_of l.writer)) sent
      × Conversing (promises_of g.D.Receipt.Shows.is_steady g.D.Receipt.Shows.lends (stripe_count l.initial.store.engine.now)) was (knows g.D.Device.failures l.pass) (fed ++ bytes) l.talk.client ((before ++ sent) ++ l.talk.out.items);
  told : told_of l.writer ≡ told_of l.initial.writer;
  reader_told : told_of l.reader ≡ told_of l.initial.reader;
  reads : reads_of l.reader ≤ reads_of l.initial.reader;
  few : reads_of l.initial.reader + l.talk.room.more ≤ reads_of l.reader + l.initial.talk.room.more;
  room : l.talk.room.items ≡ [];
  rests : Rests g.D.Receipt.Shows.is_steady l.initial.store.engine.now l.pass;
  attends : Attends (knows g.D.Device.failures l.pass) l.talk.client;
}

abbrev pub decreases-loop-paused : goal.decreases-loop-paused
decreases-loop-paused g l = reads_of l.reader

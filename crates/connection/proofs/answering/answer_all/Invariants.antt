use Rattle.std.proofs.Common.{◌≡◌, ℕ, List, ◌++◌, length}
use Rattle.std.specs.Io.KnownBytes.{Appends}
use Rattle.engine.specs.Passes.{Known, knows, Rests, stripe_count}
use Rattle.engine.specs.Calls.{promises_of}
use Rattle.streams.specs.Streams.{stream_of, told_of}
use Rattle.connection.specs.Served.{Attends, Conversing}
use Rattle.connection.proofs.answering.answer_all.Given as goal

abbrev pub invariant-loop-talk : goal.invariant-loop-talk
invariant-loop-talk g l = record {
  talk :
      (was : Known) (fed before : List ℕ)
      → Conversing (promises_of g.D.Receipt.Shows.is_steady g.D.Receipt.Shows.lends (stripe_count l.initial.store.engine.now)) was (knows g.D.Device.failures l.initial.pass) fed l.initial.talk.client (before ++ l.initial.talk.out.items)
      → (sent : List ℕ) × Appends (g.W.Write.contents (stream_of l.initial.writer)) (g.W.Write.contents (stream_of l.writer)) sent
      × Conversing (promises_of g.D.Receipt.Shows.is_steady g.D.Receipt.Shows.lends (stripe_count l.initial.store.engine.now)) was (knows g.D.Device.failures l.pass) fed l.talk.client ((before ++ sent) ++ l.talk.out.items);
  room : l.talk.room ≡ l.initial.talk.room;
  told : told_of l.writer ≡ told_of l.initial.writer;
  rests : Rests g.D.Receipt.Shows.is_steady l.initial.store.engine.now l.pass;
  attends : Attends (knows g.D.Device.failures l.pass) l.talk.client;
}

abbrev pub decreases-loop-talk : goal.decreases-loop-talk
decreases-loop-talk g l = length (l.talk.client).unread

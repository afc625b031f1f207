use Rattle.std.proofs.Common.{[], ◌++◌, ◌∙◌, refl, Some, None}
use Rattle.streams.specs.Laws.{Keeps-same, Appends-none, Appends-then, Consumes-none, Consumes-then}
use Rattle.connection.proofs.Conversing.{conversing_begins, conversing_fed, front-none, served_taken, attends_taken, attends_begins}
use Rattle.connection.proofs.serving.converse.Goals as goal

pub loop-ended-init : goal.loop-ended-init
loop-ended-init g c = record {
  talk = ([], [], Consumes-none _ _ (Keeps-same _), Appends-none _ _ (Keeps-same _), conversing_begins _ _ c.requires.watches c.requires.begins);
  waits = rw c.requires.begins front-none;
  is_open = rw c.requires.begins tt;
  empty = c.requires.empty;
  words = c.requires.words;
  room = c.requires.room;
  reader_told = refl;
  writer_told = refl;
  rests = c.requires.rests;
  attends = attends_begins _ _ c.requires.watches c.requires.begins;
}

pub returns-in-Some-clause-served : goal.returns-in-Some-clause-served
returns-in-Some-clause-served g c =
    let so_far = c.loop-ended.invariant.talk in
    let taken = c.in-Some.ensures.taken in (
      so_far.0 ++ taken.0,
      so_far.1,
      Consumes-then _ _ _ so_far.0 taken.0 so_far.2 taken.2,
      so_far.3,
      served_taken _ _ _ _ _ _ _ c.in-Some.ended so_far.4 c.loop-ended.invariant.waits c.loop-ended.invariant.is_open taken.1 taken.3,
    )

pub returns-in-Some-clause-attends : goal.returns-in-Some-clause-attends
returns-in-Some-clause-attends g c = attends_taken _ (Some c.in-Some.ended) c.in-Some.ensures.taken.0 _ _ c.loop-ended.invariant.attends c.in-Some.ensures.taken.3

pub returns-in-Some-answer_piece-clause-served : goal.returns-in-Some-answer_piece-clause-served
returns-in-Some-answer_piece-clause-served g c =
    let so_far = c.loop-ended.invariant.talk in
    let taken = c.in_default.ensures.taken in
    let talk = conversing_fed _ _ _ _ taken.0 _ _ so_far.4 taken.3 in
    let answered = c.in-Some-answer_piece.ensures.answered _ _ _ talk in (
      (so_far.0 ++ taken.0) ++ answered.0,
      so_far.1 ++ answered.1,
      Consumes-then _ _ _ _ answered.0 (Consumes-then _ _ _ so_far.0 taken.0 so_far.2 taken.2) answered.2,
      Appends-then _ _ _ so_far.1 answered.1 so_far.3 answered.3,
      answered.4,
    )

pub loop-ended-preserved : goal.loop-ended-preserved
loop-ended-preserved g c =
    let so_far = c.loop-ended.invariant.talk in
    let taken = c.in_default.ensures.taken in
    let talk = conversing_fed _ _ _ _ taken.0 _ _ so_far.4 taken.3 in
    let answered = c.in_default-answer_piece.ensures.answered _ _ _ talk in
    record {
      talk = (
        (so_far.0 ++ taken.0) ++ answered.0,
        so_far.1 ++ answered.1,
        Consumes-then _ _ _ _ answered.0 (Consumes-then _ _ _ so_far.0 taken.0 so_far.2 taken.2) answered.2,
        Appends-then _ _ _ so_far.1 answered.1 so_far.3 answered.3,
        answered.4,
      );
      waits = c.in_default-answer_piece.ensures.goes_on.0;
      is_open = c.in_default-answer_piece.ensures.goes_on.1;
      empty = c.in_default-answer_piece.ensures.goes_on.2;
      words = c.let_go.ensures;
      room = c.in_default-answer_piece.ensures.room;
      reader_told = c.in_default-answer_piece.ensures.reader_told ∙ c.in_default.ensures.told ∙ c.loop-ended.invariant.reader_told;
      writer_told = c.in_default-answer_piece.ensures.told ∙ c.loop-ended.invariant.writer_told;
      rests = c.answer_piece.ensures.rests;
      attends = c.answer_piece.ensures.attends;
    }

pub answer_piece-requires-clause-attends : goal.answer_piece-requires-clause-attends
answer_piece-requires-clause-attends g c = attends_taken _ None c.in_default.ensures.taken.0 _ _ c.loop-ended.invariant.attends c.in_default.ensures.taken.3

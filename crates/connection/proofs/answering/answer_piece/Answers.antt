use Rattle.std.proofs.Common.{◌++◌, append_assoc}
use Rattle.streams.specs.Laws.{Appends-then}
use Rattle.connection.proofs.Conversing.{conversing_empty, answered_says, goes_on_at, room_at}
use Rattle.connection.proofs.answering.answer_piece.Goals as goal

pub returns-clause-answered : goal.returns-clause-answered
returns-clause-answered g c = λ was fed before talk.
    let so_far = c.answer_waiting-paused.ensures.paused was fed before (conversing_empty _ _ _ _ _ _ c.requires.empty talk) in
    let said = c.conclude.ensures.answered _ was _ (fed ++ so_far.0) (before ++ so_far.1) _ so_far.4 in (
      so_far.0,
      so_far.1 ++ said.0,
      so_far.2,
      Appends-then _ _ _ so_far.1 said.0 so_far.3 said.1,
      answered_says _ _ _ _ c.conclude.result _ said.2 (append_assoc before so_far.1 said.0),
    )

pub returns-clause-goes_on : goal.returns-clause-goes_on
returns-clause-goes_on g c = goes_on_at _ c.conclude.result _ _ c.conclude.ensures.goes_on c.answer_waiting-paused.ensures.stands

pub returns-clause-told : goal.returns-clause-told
returns-clause-told g c = c.conclude.ensures.told _ c.answer_waiting-paused.ensures.told

pub returns-clause-room : goal.returns-clause-room
returns-clause-room g c = room_at _ c.conclude.result _ _ c.conclude.ensures.goes_on c.answer_waiting-paused.ensures.room

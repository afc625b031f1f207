use Rattle.connection.proofs.Called.{attends_turned}
use Rattle.connection.proofs.Briefs.{one_bounded, turned_one}
use Rattle.connection.proofs.answering.answer_one.Goals as goal

pub one-told-requires-clause-place : goal.one-told-requires-clause-place
one-told-requires-clause-place g c =
    let one = c.requires.one in
    let same = (rw c.as_slice.ensures.words at c.key_and_value.ensures) one in
    rw (same.0, same.1) (one_bounded c.commands_are_bounded.ensures c.args.words.now c.args.verb c.requires.request one)

pub returns-clause-due : goal.returns-clause-due
returns-clause-due g c = λ at attends idle.
    let one = c.requires.one in
    let same = (rw c.as_slice.ensures.words at c.key_and_value.ensures) one in
    turned_one _ _ _ c.args.words.now c.args.verb c.one-told.result c.into_reply.result at c.watches_follow_entries.ensures.entry c.watches_follow_entries.ensures.fault
    attends idle c.requires.request one (one_bounded c.commands_are_bounded.ensures c.args.words.now c.args.verb c.requires.request one)
    (rw (same.0, same.1) at c.one-told.ensures.answered.done) (rw (same.0, same.1) at c.one-told.ensures.answered.undone) c.into_reply.ensures

pub returns-clause-attends : goal.returns-clause-attends
returns-clause-attends g c = λ at attends idle. attends_turned _ _ _ _ _ (returns-clause-due g c at attends idle)

use Rattle.std.proofs.Common.{sym}
use Rattle.connection.proofs.Called.{wants_command}
use Rattle.connection.proofs.Briefs.{turned_command}
use Rattle.connection.proofs.answering.answer_command.Goals as goal

pub returns-in-Ok-Ok-clause-due : goal.returns-in-Ok-Ok-clause-due
returns-in-Ok-Ok-clause-due g c =
    let made = rw (c.in-Ok-Ok.is, c.in-Ok-Ok.field-0-is) at c.command_of.ensures in
    turned_command _ _ _ c.args.words.now c.in-Ok-Ok.command c.submit_with-answer.result c.into_reply.result _
    c.watches_follow_entries.ensures.entry c.watches_follow_entries.ensures.fault c.requires.attends c.requires.idle c.requires.request
    made.exact (sym c.if-names_key.ensures) (made.bounded c.requires.request)
    c.submit_with-answer.ensures.answered.done c.submit_with-answer.ensures.answered.undone c.into_reply.ensures

pub returns-in-Err-clause-turned : goal.returns-in-Err-clause-turned
returns-in-Err-clause-turned g c =
    (wants_command c.args.words.now c.args.client.now c.requires.request (λ asks. absurd (cc (c.in-Err.ensures.memory asks))), rw c.requires.idle.1 tt)

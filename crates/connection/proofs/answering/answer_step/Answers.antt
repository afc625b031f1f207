use Rattle.words.specs.declared.reply.Reply.{Reply}
use Rattle.transact.specs.declared.call.Answer.TheVariants as answer
use Rattle.engine.specs.Got.{spoken_reply}
use Rattle.connection.proofs.Called.{place_for, ends_all, says_given, turned_said, turned_want, turned_called, attends_turned, wants_memory}
use Rattle.connection.proofs.Briefs.{attends_before}
use Rattle.connection.proofs.answering.answer_step.Goals as goal

pub submit_saying-requires-clause-place : goal.submit_saying-requires-clause-place
submit_saying-requires-clause-place g c = let up = c.in-Calls.ensures in place_for _ _ up.2.3

pub submit_saying-requires-clause-watching : goal.submit_saying-requires-clause-watching
submit_saying-requires-clause-watching g c = let up = c.in-Calls.ensures in ends_all _ _ _ _ _ up.2.2 c.requires.attends.watches

pub returns-in-Says-clause-due : goal.returns-in-Says-clause-due
returns-in-Says-clause-due g c = turned_said _ _ _ _ (attends_before _ _ _ c.requires.attends) c.in-Says.ensures

pub returns-in-Says-clause-attends : goal.returns-in-Says-clause-attends
returns-in-Says-clause-attends g c = attends_turned _ _ _ _ _ (returns-in-Says-clause-due g c)

pub returns-in-SaysOutOfMemory-clause-due : goal.returns-in-SaysOutOfMemory-clause-due
returns-in-SaysOutOfMemory-clause-due g c = turned_want _ _ _ _ (attends_before _ _ _ c.requires.attends) c.in-SaysOutOfMemory.ensures c.line.ensures

pub returns-in-SaysOutOfMemory-clause-attends : goal.returns-in-SaysOutOfMemory-clause-attends
returns-in-SaysOutOfMemory-clause-attends g c = attends_turned _ _ _ _ _ (returns-in-SaysOutOfMemory-clause-due g c)

pub returns-in-Answered-clause-due : goal.returns-in-Answered-clause-due
returns-in-Answered-clause-due g c =
    turned_called _ _ _ c.in-Calls.call c.in-Answered.answer c.resume.result _ _ _ c.watches_follow_entries.ensures.entry c.watches_follow_entries.ensures.fault
    (attends_before _ _ _ c.requires.attends) c.in-Calls.ensures c.in-Answered.ensures.answered.done c.in-Answered.ensures.answered.undone c.resume.ensures.unread c.resume.ensures.resumes

pub returns-in-Answered-clause-attends : goal.returns-in-Answered-clause-attends
returns-in-Answered-clause-attends g c = attends_turned _ _ _ _ _ (returns-in-Answered-clause-due g c)

pub returns-in-Said-clause-due : goal.returns-in-Said-clause-due
returns-in-Said-clause-due g c =
    let up = c.in-Calls.ensures in
    let said : Reply = spoken_reply c.in-Said.said in
    turned_called _ _ _ c.in-Calls.call (answer.Reply said) said _ _ _ c.watches_follow_entries.ensures.entry c.watches_follow_entries.ensures.fault
    (attends_before _ _ _ c.requires.attends) up c.in-Said.ensures.answered.done tt c.resume_said.ensures.unread
    (says_given _ _ said _ _ _ _ up.2.1 up.2.2 c.in-Said.ensures.gets c.resume_said.ensures.resumes)

pub returns-in-Said-clause-attends : goal.returns-in-Said-clause-attends
returns-in-Said-clause-attends g c = attends_turned _ _ _ _ _ (returns-in-Said-clause-due g c)

pub returns-in-OutOfMemory-clause-turned : goal.returns-in-OutOfMemory-clause-turned
returns-in-OutOfMemory-clause-turned g c =
    let gives = c.in-OutOfMemory.ensures in (wants_memory _ _ gives.0 gives.1 gives.2 gives.4, gives.3)

use Rattle.std.proofs.Common.{rules, ◌≡◌, refl}
use Rattle.words.specs.Session.{line_reply}
use Rattle.transact.specs.Calls.{answer_of}
use Rattle.connection.proofs.Called.{attends_turned}
use Rattle.connection.proofs.Briefs.{set_bounded, turned_set, turned_ping}
use Rattle.connection.proofs.answering.answer_idle.Goals as goal

pub returns-in-Set-clause-due : goal.returns-in-Set-clause-due
returns-in-Set-clause-due g c =
    let set = c.in-Set.ensures.set refl in
    let same : c.index-as_slice-1.result ≡ set.key = search (rules, set.words_are) in
    let value : c.index-as_slice-2.result ≡ set.value = search (rules, set.words_are) in
    turned_set _ _ _ c.args.words.now (answer_of c.set.result) (line_reply c.line_of.result) _ c.watches_follow_entries.ensures.entry c.watches_follow_entries.ensures.fault
    c.requires.attends c.requires.idle c.requires.request set (set_bounded c.commands_are_bounded.ensures c.args.words.now c.requires.request set) (rw (same, value) at c.set.ensures.answered.done) (rw (same, value) at c.set.ensures.answered.undone) c.line_of.ensures

pub returns-in-Set-clause-attends : goal.returns-in-Set-clause-attends
returns-in-Set-clause-attends g c = attends_turned _ _ _ _ _ (returns-in-Set-clause-due g c)

pub returns-in-Ping-clause-due : goal.returns-in-Ping-clause-due
returns-in-Ping-clause-due g c = turned_ping _ c.args.words.now _ c.requires.attends c.requires.idle c.requires.request (c.in-Ping.ensures.ping refl)

pub set-requires-clause-place : goal.set-requires-clause-place
set-requires-clause-place g c =
    let set = c.in-Set.ensures.set refl in
    let same : c.index-as_slice-1.result ≡ set.key = search (rules, set.words_are) in
    let value : c.index-as_slice-2.result ≡ set.value = search (rules, set.words_are) in
    rw (same, value) (set_bounded c.commands_are_bounded.ensures c.args.words.now c.requires.request set)

pub returns-in-One-clause-turned : goal.returns-in-One-clause-turned
returns-in-One-clause-turned g c = c.answer_one.ensures.turned c.args.client.now c.requires.idle

pub returns-in-One-clause-due : goal.returns-in-One-clause-due
returns-in-One-clause-due g c = c.answer_one.ensures.due c.args.client.now c.requires.attends c.requires.idle

pub returns-in-One-clause-attends : goal.returns-in-One-clause-attends
returns-in-One-clause-attends g c = c.answer_one.ensures.attends c.args.client.now c.requires.attends c.requires.idle

pub returns-in-Settings-clause-turned : goal.returns-in-Settings-clause-turned
returns-in-Settings-clause-turned g c = c.answer_settings.ensures.turned c.args.client.now c.requires.idle

pub returns-in-Settings-clause-due : goal.returns-in-Settings-clause-due
returns-in-Settings-clause-due g c = c.answer_settings.ensures.due c.args.client.now c.requires.attends c.requires.idle

pub returns-in-Settings-clause-attends : goal.returns-in-Settings-clause-attends
returns-in-Settings-clause-attends g c = c.answer_settings.ensures.attends c.args.client.now c.requires.attends c.requires.idle

pub returns-in-Values-clause-turned : goal.returns-in-Values-clause-turned
returns-in-Values-clause-turned g c = c.answer_values.ensures.turned c.args.client.now c.requires.idle

pub returns-in-Values-clause-due : goal.returns-in-Values-clause-due
returns-in-Values-clause-due g c = c.answer_values.ensures.due c.args.client.now c.requires.attends c.requires.idle

pub returns-in-Values-clause-attends : goal.returns-in-Values-clause-attends
returns-in-Values-clause-attends g c = c.answer_values.ensures.attends c.args.client.now c.requires.attends c.requires.idle

pub returns-in-Get-clause-turned : goal.returns-in-Get-clause-turned
returns-in-Get-clause-turned g c = c.answer_get.ensures.turned c.args.client.now c.requires.idle

pub returns-in-Get-clause-due : goal.returns-in-Get-clause-due
returns-in-Get-clause-due g c = c.answer_get.ensures.due c.args.client.now c.requires.attends c.requires.idle

pub returns-in-Get-clause-attends : goal.returns-in-Get-clause-attends
returns-in-Get-clause-attends g c = c.answer_get.ensures.attends c.args.client.now c.requires.attends c.requires.idle

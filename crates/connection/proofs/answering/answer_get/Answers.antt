use Rattle.std.proofs.Common.{rules, ◌≡◌, Ok, Err, refl, sym, subst}
use Rattle.words.specs.declared.reply.Line.TheVariants.{Faulty}
use Rattle.words.specs.Store.{Bytes}
use Rattle.words.specs.Bounds.{IsBounded}
use Rattle.words.specs.declared.command.Command.TheVariants.{Get}
use Rattle.words.specs.Session.{line_reply, value_reply}
use Rattle.engine.specs.declared.get.Got.TheVariants as got
use Rattle.engine.specs.Got.{got_answer, spoken_reply}
use Rattle.connection.proofs.Called.{attends_turned}
use Rattle.connection.proofs.Briefs.{get_bounded, turned_get}
use Rattle.connection.proofs.answering.answer_get.Goals as goal

pub returns-in-Ok-Said-clause-due : goal.returns-in-Ok-Said-clause-due
returns-in-Ok-Said-clause-due g c = λ at attends idle.
    let get = c.requires.get in
    let same : c.index-as_slice-1.result ≡ get.key = search (rules, get.words_are) in
    turned_get _ _ _ c.args.words.now (got_answer (Ok (got.Said c.in-Ok-Said.said))) (spoken_reply c.in-Ok-Said.said) at c.watches_follow_entries.ensures.entry c.watches_follow_entries.ensures.fault
    attends idle c.requires.request get (get_bounded c.commands_are_bounded.ensures c.args.words.now c.requires.request get) (rw (same, c.in-Ok-Said.field-0-is) at c.in-Ok-Said.ensures.answered.done) tt refl

pub returns-in-Ok-Said-clause-attends : goal.returns-in-Ok-Said-clause-attends
returns-in-Ok-Said-clause-attends g c = λ at attends idle. attends_turned _ _ _ _ _ (returns-in-Ok-Said-clause-due g c at attends idle)

pub returns-in-Ok-Found-clause-due : goal.returns-in-Ok-Found-clause-due
returns-in-Ok-Found-clause-due g c = λ at attends idle.
    let get = c.requires.get in
    let same : c.index-as_slice-1.result ≡ get.key = search (rules, get.words_are) in
    turned_get _ _ _ c.args.words.now (got_answer (Ok (got.Found c.in-Ok-Found.value))) (value_reply c.in-Ok-Found.value) at c.watches_follow_entries.ensures.entry c.watches_follow_entries.ensures.fault
    attends idle c.requires.request get (get_bounded c.commands_are_bounded.ensures c.args.words.now c.requires.request get) (rw (same, c.in-Ok-Found.field-0-is) at c.in-Ok-Found.ensures.answered.done) tt refl

pub returns-in-Ok-Found-clause-attends : goal.returns-in-Ok-Found-clause-attends
returns-in-Ok-Found-clause-attends g c = λ at attends idle. attends_turned _ _ _ _ _ (returns-in-Ok-Found-clause-due g c at attends idle)

pub returns-in-Err-clause-due : goal.returns-in-Err-clause-due
returns-in-Err-clause-due g c = λ at attends idle.
    let get = c.requires.get in
    let same : c.index-as_slice-1.result ≡ get.key = search (rules, get.words_are) in
    turned_get _ _ _ c.args.words.now (got_answer (Err c.in-Err.fault)) (line_reply (Faulty c.in-Err.fault)) at c.watches_follow_entries.ensures.entry c.watches_follow_entries.ensures.fault
    attends idle c.requires.request get (get_bounded c.commands_are_bounded.ensures c.args.words.now c.requires.request get) tt (rw same at c.in-Err.ensures.answered.undone) refl

pub returns-in-Err-clause-attends : goal.returns-in-Err-clause-attends
returns-in-Err-clause-attends g c = λ at attends idle. attends_turned _ _ _ _ _ (returns-in-Err-clause-due g c at attends idle)

pub say-requires-clause-place : goal.say-requires-clause-place
say-requires-clause-place g c =
    let get = c.requires.get in
    let same : c.index-as_slice-1.result ≡ get.key = search (rules, get.words_are) in
    subst (λ (key : Bytes). IsBounded (Get key)) (sym same) (get_bounded c.commands_are_bounded.ensures c.args.words.now c.requires.request get)

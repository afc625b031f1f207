use Rattle.std.proofs.Common.{◌≡◌, ◌∙◌, List, refl, sym, subst}
use Rattle.words.specs.declared.command.Command.TheVariants.{MGet}
use Rattle.words.specs.Bounds.{IsBounded}
use Rattle.words.specs.Session.{values_reply}
use Rattle.words.specs.Store.{Bytes}
use Rattle.transact.specs.declared.call.Answer.TheVariants as answer
use Rattle.engine.specs.Got.{spoken_reply}
use Rattle.connection.proofs.Called.{attends_turned}
use Rattle.connection.proofs.Briefs.{keys_same, turned_values, values_bounded}
use Rattle.connection.proofs.answering.answer_values.Goals as goal

pub say_values-requires-clause-place : goal.say_values-requires-clause-place
say_values-requires-clause-place g c =
    let mget = c.requires.values in
    let same : c.in-Some.keys.now ≡ mget.keys = keys_same c.args.words.now c.in-Some._name.now c.in-Some.keys.now (sym c.as_slice.ensures.words ∙ c.in-Some.ensures.cases.0) mget in
    subst (λ (keys : List Bytes). IsBounded (MGet keys)) (sym same) (values_bounded c.commands_are_bounded.ensures c.args.words.now c.requires.request mget)

pub returns-in-Gathered-Found-clause-due : goal.returns-in-Gathered-Found-clause-due
returns-in-Gathered-Found-clause-due g c = λ at attends idle.
    let mget = c.requires.values in
    let same : c.in-Some.keys.now ≡ mget.keys = keys_same c.args.words.now c.in-Some._name.now c.in-Some.keys.now (sym c.as_slice.ensures.words ∙ c.in-Some.ensures.cases.0) mget in
    turned_values _ _ _ c.args.words.now (answer.Reply (values_reply c.in-Gathered-Found.values)) (values_reply c.in-Gathered-Found.values) at c.watches_follow_entries.ensures.entry
    c.watches_follow_entries.ensures.fault
    attends idle c.requires.request mget (values_bounded c.commands_are_bounded.ensures c.args.words.now c.requires.request mget)
    (rw (same, c.in-Gathered-Found.field-0-is) at c.in-Gathered-Found.ensures.answered.done) tt refl

pub returns-in-Gathered-Found-clause-attends : goal.returns-in-Gathered-Found-clause-attends
returns-in-Gathered-Found-clause-attends g c = λ at attends idle. attends_turned _ _ _ _ _ (returns-in-Gathered-Found-clause-due g c at attends idle)

pub returns-in-Said-clause-due : goal.returns-in-Said-clause-due
returns-in-Said-clause-due g c = λ at attends idle.
    let mget = c.requires.values in
    let same : c.in-Some.keys.now ≡ mget.keys = keys_same c.args.words.now c.in-Some._name.now c.in-Some.keys.now (sym c.as_slice.ensures.words ∙ c.in-Some.ensures.cases.0) mget in
    turned_values _ _ _ c.args.words.now (answer.Reply (spoken_reply c.in-Said.said)) (spoken_reply c.in-Said.said) at c.watches_follow_entries.ensures.entry
    c.watches_follow_entries.ensures.fault
    attends idle c.requires.request mget (values_bounded c.commands_are_bounded.ensures c.args.words.now c.requires.request mget)
    (rw same at c.in-Said.ensures.answered.done) tt refl

pub returns-in-Said-clause-attends : goal.returns-in-Said-clause-attends
returns-in-Said-clause-attends g c = λ at attends idle. attends_turned _ _ _ _ _ (returns-in-Said-clause-due g c at attends idle)

pub returns-in-Gathered-Planned-clause-due : goal.returns-in-Gathered-Planned-clause-due
returns-in-Gathered-Planned-clause-due g c = λ at attends idle.
    let mget = c.requires.values in
    let same : c.in-Some.keys.now ≡ mget.keys = keys_same c.args.words.now c.in-Some._name.now c.in-Some.keys.now (sym c.as_slice.ensures.words ∙ c.in-Some.ensures.cases.0) mget in
    turned_values _ _ _ c.args.words.now c.in-Gathered-Planned.planned c.into_reply.result at c.watches_follow_entries.ensures.entry
    c.watches_follow_entries.ensures.fault
    attends idle c.requires.request mget (values_bounded c.commands_are_bounded.ensures c.args.words.now c.requires.request mget)
    (rw (same, c.in-Gathered-Planned.field-0-is) at c.in-Gathered-Planned.ensures.answered.done) (rw (same, c.in-Gathered-Planned.field-0-is) at c.in-Gathered-Planned.ensures.answered.undone) c.into_reply.ensures

pub returns-in-Gathered-Planned-clause-attends : goal.returns-in-Gathered-Planned-clause-attends
returns-in-Gathered-Planned-clause-attends g c = λ at attends idle. attends_turned _ _ _ _ _ (returns-in-Gathered-Planned-clause-due g c at attends idle)

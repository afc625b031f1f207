use Rattle.std.proofs.Common.{◌≡◌, ◌∙◌, List, sym, subst}
use Rattle.words.specs.declared.command.Command.TheVariants.{MSet}
use Rattle.words.specs.Bounds.{IsBounded}
use Rattle.words.specs.Briefs.{pairs_of}
use Rattle.words.specs.Store.{Bytes}
use Rattle.connection.proofs.Called.{attends_turned}
use Rattle.connection.proofs.Briefs.{others_same, settings_bounded, turned_settings}
use Rattle.connection.proofs.answering.answer_settings.Goals as goal

pub set_all-answer-requires-clause-place : goal.set_all-answer-requires-clause-place
set_all-answer-requires-clause-place g c =
    let mset = c.requires.settings in
    let same : c.in-Some.settings.now ≡ mset.others = others_same c.args.words.now c.in-Some._name.now c.in-Some.settings.now (sym c.as_slice.ensures.words ∙ c.in-Some.ensures.cases.0) mset in
    subst (λ (others : List Bytes). IsBounded (MSet (pairs_of others))) (sym same) (settings_bounded c.commands_are_bounded.ensures c.args.words.now c.requires.request mset)

pub returns-clause-due : goal.returns-clause-due
returns-clause-due g c = λ at attends idle.
    let mset = c.requires.settings in
    let same : c.in-Some.settings.now ≡ mset.others = others_same c.args.words.now c.in-Some._name.now c.in-Some.settings.now (sym c.as_slice.ensures.words ∙ c.in-Some.ensures.cases.0) mset in
    turned_settings _ _ _ c.args.words.now c.set_all-answer.result c.into_reply.result at c.watches_follow_entries.ensures.entry c.watches_follow_entries.ensures.fault
    attends idle c.requires.request mset (settings_bounded c.commands_are_bounded.ensures c.args.words.now c.requires.request mset)
    (rw same at c.set_all-answer.ensures.answered.done) (rw same at c.set_all-answer.ensures.answered.undone) c.into_reply.ensures

pub returns-clause-attends : goal.returns-clause-attends
returns-clause-attends g c = λ at attends idle. attends_turned _ _ _ _ _ (returns-clause-due g c at attends idle)

use Rattle.std.proofs.Common.{ℕ, List, Option, Some, None, IfSome, OnSome, false, sym, ap, subst, rules}
use Rattle.gates.specs.declared.report.Report.TheVariants.{Nothing}
use Rattle.gates.specs.declared.view.Knowledge.{Knowledge}
use Rattle.gates.specs.Passes.{known, stripes_of}
use Rattle.gates.specs.Helds.{held_stripes, known_to}
use Rattle.transact.specs.declared.call.Call.{Call}
use Rattle.transact.specs.Calls.{call_keys}
use Rattle.engine.specs.Answers.{IsAnswered}
use Rattle.engine.specs.Calls.{promises_of}
use Rattle.engine.specs.Entering.{given, own_answer}
use Rattle.engine.specs.Got.{speaking_call, spoken_answer}
use Rattle.engine.specs.Passes.{know}
use Rattle.engine.specs.Stops.{HasHeardWith}
use Rattle.engine.proofs.Entering.{given_here, heard_nothing, may_enter, parts_of}
use Rattle.engine.proofs.Hearing.{heard_after, heard_given}
use Rattle.engine.proofs.Behind.{answered_behind, answered_counted}
use Rattle.engine.proofs.say.say_at_once.Goals as goal

some_then : {A : Type 0} (result : Option A) (P Q : A → Type 0) → ((a : A) → P a → Q a) → IfSome result P → IfSome result Q
some_then (Some a) P Q turn has = turn a has
some_then None P Q turn has = tt

some_both : {A : Type 0} (result : Option A) (P Q : A → Type 0) (S : Type 0) → ((a : A) → P a → Q a → S) → IfSome result P → IfSome result Q → OnSome result S
some_both (Some a) P Q S turn has is = turn a has is
some_both None P Q S turn has is = tt

pub enter_spoken-spoken-requires-clause-may : goal.enter_spoken-spoken-requires-clause-may
enter_spoken-spoken-requires-clause-may g c =
    may_enter g.R.Shows.is_steady _ c.args.site.now.gates.now c.args.wanted.now _ c.take-held.result
    (c.stripes_hold_keys.ensures (stripes_of c.args.site.now.gates.now) (parts_of g.R.Shows.is_steady c.take-held.result) c.args.wanted.now (call_keys (speaking_call c.args.call.now))
    c.requires.wanted.are c.take-held.ensures.has) c.take-held.ensures

pub give_back-requires : goal.give_back-requires
give_back-requires g c = record {
  may = given_here g.R.Shows.is_steady false Nothing c.take-held.result c.enter_spoken-spoken.new.held c.enter_spoken-spoken.ensures.back;
}

pub returns-clause-answered : goal.returns-clause-answered
returns-clause-answered g c = λ failures.
    let before : Knowledge = known c.args.pass.now in
    let mid : Knowledge = known_to c.take-held.result in
    let call : Call = speaking_call c.args.call.now in
    let n : ℕ = stripes_of c.args.site.now.gates.now in
    let stripes : List ℕ = c.args.wanted.now in
    let last = c.give_back.ensures.known in
    let promises = promises_of g.R.Shows.is_steady g.R.Shows.lends n in
    some_then c.enter_spoken-spoken.result _ _
    (λ got answered.
    subst (λ (k : Knowledge). IsAnswered promises stripes call (spoken_answer got) (know before failures) (know k failures)) (sym (search (rules, last)))
    (answered_behind stripes before mid failures (know (given false Nothing (known_to c.enter_spoken-spoken.new.held)) failures) c.take-held.ensures.learned
    c.take-held.ensures.told
    promises (spoken_answer got) call (answered_counted g.R.Shows.is_steady g.R.Shows.lends (held_stripes c.take-held.result) n (ap (λ gates. stripes_of gates) c.take-held.ensures.gates_are) (spoken_answer got) call _ _ answered)))
    (c.enter_spoken-spoken.ensures.answered failures)

pub returns-clause-heard : goal.returns-clause-heard
returns-clause-heard g c = λ view.
    let before : Knowledge = known c.args.pass.now in
    let mid : Knowledge = known_to c.take-held.result in
    let noted : Knowledge = known_to c.enter_spoken-spoken.new.held in
    let call : Call = speaking_call c.args.call.now in
    let last = c.give_back.ensures.known in
    let promises = promises_of g.R.Shows.is_steady g.R.Shows.lends (held_stripes c.take-held.result) in
    some_both c.enter_spoken-spoken.result _ _ _
    (λ got answered tells.
    subst (λ (k : Knowledge). HasHeardWith before k view view) (sym (search (rules, last)))
    (heard_after c.args.wanted.now before mid (given false Nothing noted) view view view c.take-held.ensures.told (heard_nothing view)
    (heard_given own_answer (record { answer = spoken_answer got; ends = false; report = Nothing }) promises call mid noted 0 0 view view
    (record { heard = heard_nothing view; worn = tt; full = tells }) answered)))
    (c.enter_spoken-spoken.ensures.answered 0) c.enter_spoken-spoken.ensures.full

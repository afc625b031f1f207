use Rattle.std.proofs.Common.{◌≡◌, ℕ, List, sym, ap, subst, rules}
use Rattle.gates.specs.declared.view.Knowledge.{Knowledge}
use Rattle.gates.specs.Passes.{known, stripes_of}
use Rattle.gates.specs.Helds.{held_stripes, known_to}
use Rattle.transact.specs.declared.call.Call.{Call}
use Rattle.transact.specs.Calls.{call_keys}
use Rattle.transact.specs.Submits.{stripes_asked}
use Rattle.engine.specs.Answers.{IsAnswered}
use Rattle.engine.specs.Calls.{promises_of}
use Rattle.engine.specs.Entering.{given}
use Rattle.engine.specs.Got.{spoken_answer}
use Rattle.engine.specs.Passes.{know}
use Rattle.engine.specs.Stops.{HasHeardWith}
use Rattle.engine.proofs.Entering.{given_here, heard_nothing, may_begin, parts_of}
use Rattle.engine.proofs.Hearing.{heard_after, heard_given}
use Rattle.engine.proofs.Behind.{answered_behind, answered_counted}
use Rattle.engine.proofs.Saids.{some_both, some_then}
use Rattle.engine.proofs.exec.say_exec.Goals as goal

pub try_gets-answer-requires-clause-begin : goal.try_gets-answer-requires-clause-begin
try_gets-answer-requires-clause-begin g c =
    may_begin g.R.Shows.is_steady c.args.call.now c.args.site.now.gates.now c.stripes-wanted.result _ c.take-held.result
    (c.stripes_hold_keys.ensures (stripes_of c.args.site.now.gates.now) (parts_of g.R.Shows.is_steady c.take-held.result) c.stripes-wanted.result (call_keys c.args.call.now)
    (rw c.stripes.ensures.count at c.stripes-wanted.ensures.exact) c.take-held.ensures.has) c.take-held.ensures c.requires.may

pub give_back-requires : goal.give_back-requires
give_back-requires g c = record {
  may = given_here g.R.Shows.is_steady c.try_gets-answer.result.ends c.try_gets-answer.result.report c.take-held.result c.try_gets-answer.new.held c.try_gets-answer.ensures.back;
}

pub returns-clause-answered : goal.returns-clause-answered
returns-clause-answered g c = λ failures.
    let s : Type 0 = g.R.Shows.is_steady in
    let before : Knowledge = known c.args.pass.now in
    let mid : Knowledge = known_to c.take-held.result in
    let call : Call = c.args.call.now in
    let n : ℕ = stripes_of c.args.site.now.gates.now in
    let stripes : List ℕ = c.stripes-wanted.result in
    let last = c.give_back.ensures.known in
    let promises = promises_of s g.R.Shows.lends n in
    let are : stripes ≡ stripes_asked n call = rw c.stripes.ensures.count at c.stripes-wanted.ensures.exact in
    let now : Knowledge = given c.try_gets-answer.result.ends c.try_gets-answer.result.report (known_to c.try_gets-answer.new.held) in
    some_then c.try_gets-answer.result.answer _ _
    (λ spoken answered.
    subst (λ (k : Knowledge). IsAnswered promises (stripes_asked n call) call (spoken_answer spoken) (know before failures) (know k failures)) (sym (search (rules, last)))
    (subst (λ (l : List ℕ). IsAnswered promises l call (spoken_answer spoken) (know before failures) (know now failures)) are
    (answered_behind stripes before mid failures (know now failures) c.take-held.ensures.learned c.take-held.ensures.told
    promises (spoken_answer spoken) call (answered_counted s g.R.Shows.lends (held_stripes c.take-held.result) n (ap (λ gates. stripes_of gates) c.take-held.ensures.gates_are) (spoken_answer spoken) call _ _ answered))))
    (c.try_gets-answer.ensures.answered failures)

pub returns-clause-heard : goal.returns-clause-heard
returns-clause-heard g c = λ view.
    let s : Type 0 = g.R.Shows.is_steady in
    let before : Knowledge = known c.args.pass.now in
    let mid : Knowledge = known_to c.take-held.result in
    let noted : Knowledge = known_to c.try_gets-answer.new.held in
    let call : Call = c.args.call.now in
    let last = c.give_back.ensures.known in
    let promises = promises_of s g.R.Shows.lends (held_stripes c.take-held.result) in
    some_both c.try_gets-answer.result.answer _ _ _
    (λ spoken answered heard.
    subst (λ (k : Knowledge). HasHeardWith before k view view) (sym (search (rules, last)))
    (heard_after c.stripes-wanted.result before mid (given c.try_gets-answer.result.ends c.try_gets-answer.result.report noted) view view view c.take-held.ensures.told (heard_nothing view)
    (heard_given spoken_answer (record { answer = spoken; ends = c.try_gets-answer.result.ends; report = c.try_gets-answer.result.report }) promises call mid noted 0 0 view view heard answered)))
    (c.try_gets-answer.ensures.answered 0) (c.try_gets-answer.ensures.heard view)

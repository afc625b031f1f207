use Rattle.std.proofs.Common.{refl, ◌≡◌, ◌∙◌, ℕ, List, false, sym, ap, subst, rules}
use Rattle.gates.specs.declared.view.Knowledge.{Knowledge}
use Rattle.gates.specs.Passes.{ToldBusy, known, stripes_of}
use Rattle.gates.specs.Helds.{held_stripes, known_to}
use Rattle.transact.specs.declared.call.Call.{Call}
use Rattle.transact.specs.Calls.{answer_of, call_keys}
use Rattle.transact.specs.Submits.{stripes_asked}
use Rattle.engine.specs.Answers.{IsAnswered}
use Rattle.engine.specs.Calls.{promises_of}
use Rattle.engine.specs.Entering.{given, line_came_to, own_answer}
use Rattle.engine.specs.Passes.{know}
use Rattle.engine.specs.Memory.{set_call}
use Rattle.engine.proofs.Later.{free_of}
use Rattle.engine.proofs.Entering.{given_here, heard_nothing, may_enter, parts_of}
use Rattle.epoch.specs.declared.view.View.{View}
use Rattle.epoch.specs.Seats as epoch
use Rattle.engine.specs.Stops.{HasHeardWith}
use Rattle.engine.proofs.Hearing.{heard_after, heard_given, seats_heard}
use Rattle.engine.proofs.Behind.{answered_behind, answered_counted}
use Rattle.engine.proofs.set.submit_set.Goals as goal

pub enter_set-answer-requires-clause-may : goal.enter_set-answer-requires-clause-may
enter_set-answer-requires-clause-may g c =
    may_enter g.R.Shows.is_steady _ c.args.site.now.gates.now c.stripe_of_key-wanted.result _ c.take-held.result
    (c.stripes_hold_keys.ensures (stripes_of c.args.site.now.gates.now) (parts_of g.R.Shows.is_steady c.take-held.result) c.stripe_of_key-wanted.result (call_keys (set_call c.args.setting.now.key.now c.args.setting.now.value.now))
    (c.stripe_of_key-wanted.ensures.exact ∙ ap (λ (n : ℕ). stripes_asked n (set_call c.args.setting.now.key.now c.args.setting.now.value.now)) c.stripes.ensures.count) c.take-held.ensures.has) c.take-held.ensures

pub give-requires-clause-fit : goal.give-requires-clause-fit
give-requires-clause-fit g c =
    (given_here g.R.Shows.is_steady false c.enter_set-answer.result.1 c.take-held.result c.enter_set-answer.new.held c.enter_set-answer.ensures.back).fit

pub returns-clause-answered : goal.returns-clause-answered
returns-clause-answered g c =
    let before : Knowledge = known c.args.pass.now in
    let mid : Knowledge = known_to c.take-held.result in
    let call : Call = set_call c.args.setting.now.key.now c.args.setting.now.value.now in
    let n : ℕ = stripes_of c.args.site.now.gates.now in
    let stripes : List ℕ = stripes_asked n call in
    let same : c.stripe_of_key-wanted.result ≡ stripes = c.stripe_of_key-wanted.ensures.exact ∙ ap (λ (n : ℕ). stripes_asked n call) c.stripes.ensures.count in
    let last = c.give.ensures.known in
    let f0 : ℕ = g.D.Device.failures c.args.device.now in
    let f1 : ℕ = g.D.Device.failures c.enter_set-answer.new.device in
    let answer = answer_of c.enter_set-answer.result.0 in
    let promises = promises_of g.R.Shows.is_steady g.R.Shows.lends n in
    subst (λ (k : Knowledge). IsAnswered promises stripes call answer (know before f0) (know k f1)) (sym (search (rules, last)))
    (answered_behind stripes before mid f0 (know (given false c.enter_set-answer.result.1 (known_to c.enter_set-answer.new.held)) f1) c.take-held.ensures.learned
    (subst (λ (l : List ℕ). ToldBusy l before mid) same c.take-held.ensures.told)
    promises answer call (answered_counted g.R.Shows.is_steady g.R.Shows.lends (held_stripes c.take-held.result) n (ap (λ gates. stripes_of gates) c.take-held.ensures.gates_are) answer call _ _ c.enter_set-answer.ensures.answered))

pub give-requires-clause-told : goal.give-requires-clause-told
give-requires-clause-told g c =
    (given_here g.R.Shows.is_steady false c.enter_set-answer.result.1 c.take-held.result c.enter_set-answer.new.held c.enter_set-answer.ensures.back).told

pub returns-clause-hands : goal.returns-clause-hands
returns-clause-hands g c = (
  record { alloc = c.in-Some.taken.alloc; staged = c.in-Some.taken.staged; own = c.enter_set-answer.new.own },
  refl,
  record { outside = c.enter_set-answer.ensures.is; none = (free_of c.args.site.now.epochs.now c.args.hands.now c.in-Some.taken c.in-Some.ensures.value c.requires.hands).none },
)

pub returns-clause-heard : goal.returns-clause-heard
returns-clause-heard g c =
    let before : Knowledge = known c.args.pass.now in
    let mid : Knowledge = known_to c.take-held.result in
    let call : Call = set_call c.args.setting.now.key.now c.args.setting.now.value.now in
    let promises = promises_of g.R.Shows.is_steady g.R.Shows.lends (held_stripes c.take-held.result) in
    let entered = line_came_to c.enter_set-answer.result.0 c.enter_set-answer.result.1 in
    let noted : Knowledge = known_to c.enter_set-answer.new.held in
    let f0 : ℕ = g.D.Device.failures c.args.device.now in
    let f1 : ℕ = g.D.Device.failures c.enter_set-answer.new.device in
    let had : View = epoch.known c.in-Some.taken.own in
    let has : View = epoch.known c.enter_set-answer.new.own in
    let last = c.give.ensures.known in
    seats_heard before _ c.args.hands.now _ c.in-Some.taken (record { alloc = c.in-Some.taken.alloc; staged = c.in-Some.taken.staged; own = c.enter_set-answer.new.own }) (sym c.in-Some.ensures.value) refl
    (subst (λ (k : Knowledge). HasHeardWith before k had has) (sym (search (rules, last)))
    (heard_after c.stripe_of_key-wanted.result before mid (given false c.enter_set-answer.result.1 noted) had had has c.take-held.ensures.told (heard_nothing had)
    (heard_given own_answer entered promises call mid noted f0 f1 had has c.enter_set-answer.ensures.heard c.enter_set-answer.ensures.answered)))

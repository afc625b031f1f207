use Rattle.std.proofs.Common.{refl, ◌∙◌, ℕ, [], sym, ap, subst, rules}
use Rattle.gates.specs.declared.view.Knowledge.{Knowledge}
use Rattle.gates.specs.Passes.{ToldBusy, known, stripes_of}
use Rattle.gates.specs.Helds.{held_stripes, known_to}
use Rattle.transact.specs.Calls.{call_keys}
use Rattle.transact.specs.Submits.{stripes_asked}
use Rattle.engine.specs.Answers.{IsAnswered}
use Rattle.engine.specs.Calls.{promises_of}
use Rattle.engine.specs.Entering.{given, own_answer}
use Rattle.engine.specs.Passes.{know}
use Rattle.engine.proofs.Entering.{given_here, heard_nothing, may_begin, parts_of}
use Rattle.epoch.specs.declared.view.View.{View}
use Rattle.epoch.specs.Seats as epoch
use Rattle.engine.specs.Stops.{HasHeardWith}
use Rattle.engine.proofs.Hearing.{heard_after, heard_busy, heard_given, seats_heard, seats_kept}
use Rattle.engine.proofs.Behind.{answered_behind, answered_counted}
use Rattle.engine.proofs.call.try_submit.Goals as goal

pub enter_at_once-answer-requires-clause-begin : goal.enter_at_once-answer-requires-clause-begin
enter_at_once-answer-requires-clause-begin g c =
    let taken = c.hold-held.ensures.taken _ c.in-Ok.ensures.ok in
    may_begin g.R.Shows.is_steady c.args.call c.args.site.now.gates.now c.stripes-wanted.result _ c.hold-held.result
    (c.stripes_hold_keys.ensures (stripes_of c.args.site.now.gates.now) (parts_of g.R.Shows.is_steady c.hold-held.result) c.stripes-wanted.result (call_keys c.args.call) (c.stripes-wanted.ensures.exact ∙ ap (λ (n : ℕ). stripes_asked n c.args.call) c.stripes.ensures.count) taken.has)
    taken c.requires.may

pub give_back-requires : goal.give_back-requires
give_back-requires g c =
    record {
      may = given_here g.R.Shows.is_steady c.enter_at_once-answer.result.ends c.enter_at_once-answer.result.report c.hold-held.result c.enter_at_once-answer.new.held c.enter_at_once-answer.ensures.entered.back;
    }

pub returns-in-Some-clause-answered : goal.returns-in-Some-clause-answered
returns-in-Some-clause-answered g c =
    let taken = c.hold-held.ensures.taken _ c.in-Ok.ensures.ok in
    let before : Knowledge = known c.args.pass.now in
    let mid : Knowledge = known_to c.hold-held.result in
    let told : ToldBusy [] before mid = ([], (c.hold-held.ensures.told _ c.in-Ok.ensures.ok), tt) in
    let last = c.give_back.ensures.known in
    let f0 : ℕ = g.D.Device.failures c.args.device.now in
    let f1 : ℕ = g.D.Device.failures c.enter_at_once-answer.new.device in
    let promises = promises_of g.R.Shows.is_steady g.R.Shows.lends (stripes_of c.args.site.now.gates.now) in
    let answer = c.enter_at_once-answer.result.answer in
    subst (λ (k : Knowledge). IsAnswered promises [] c.args.call answer (know before f0) (know k f1)) (sym (search (rules, last)))
    (answered_behind [] before mid f0 (know (given c.enter_at_once-answer.result.ends c.enter_at_once-answer.result.report (known_to c.enter_at_once-answer.new.held)) f1) taken.learned told
    promises answer c.args.call (answered_counted g.R.Shows.is_steady g.R.Shows.lends (held_stripes c.hold-held.result) (stripes_of c.args.site.now.gates.now) (ap (λ gates. stripes_of gates) taken.gates_are) answer c.args.call _ _ c.enter_at_once-answer.ensures.entered.answered))

pub returns-in-Err-clause-stripe : goal.returns-in-Err-clause-stripe
returns-in-Err-clause-stripe g c = search rules

pub returns-in-Err-clause-busy : goal.returns-in-Err-clause-busy
returns-in-Err-clause-busy g c = search rules

pub returns-in-Some-clause-hands : goal.returns-in-Some-clause-hands
returns-in-Some-clause-hands g c = (
  record { alloc = c.enter_at_once-answer.new.hands.alloc; staged = c.clear.new.self; own = c.enter_at_once-answer.new.hands.own },
  refl,
  record { outside = c.enter_at_once-answer.ensures.hands.own; none = c.clear.ensures },
)

pub returns-in-Some-clause-heard : goal.returns-in-Some-clause-heard
returns-in-Some-clause-heard g c =
    let taken = c.hold-held.ensures.taken _ c.in-Ok.ensures.ok in
    let before : Knowledge = known c.args.pass.now in
    let mid : Knowledge = known_to c.hold-held.result in
    let told : ToldBusy [] before mid = ([], (c.hold-held.ensures.told _ c.in-Ok.ensures.ok), tt) in
    let promises = promises_of g.R.Shows.is_steady g.R.Shows.lends (held_stripes c.hold-held.result) in
    let entered = c.enter_at_once-answer.result in
    let noted : Knowledge = known_to c.enter_at_once-answer.new.held in
    let f0 : ℕ = g.D.Device.failures c.args.device.now in
    let f1 : ℕ = g.D.Device.failures c.enter_at_once-answer.new.device in
    let had : View = epoch.known c.in-Some.taken.own in
    let has : View = epoch.known c.enter_at_once-answer.new.hands.own in
    let last = c.give_back.ensures.known in
    seats_heard before _ c.args.hands.now _ c.in-Some.taken (record { alloc = c.enter_at_once-answer.new.hands.alloc; staged = c.clear.new.self; own = c.enter_at_once-answer.new.hands.own }) (sym c.in-Some.ensures.value) refl
    (subst (λ (k : Knowledge). HasHeardWith before k had has) (sym (search (rules, last)))
    (heard_after [] before mid (given entered.ends entered.report noted) had had has told (heard_nothing had)
    (heard_given own_answer entered promises c.args.call mid noted f0 f1 had has c.enter_at_once-answer.ensures.heard c.enter_at_once-answer.ensures.entered.answered)))

pub returns-in-Err-clause-heard : goal.returns-in-Err-clause-heard
returns-in-Err-clause-heard g c =
    seats_kept (known c.args.pass.now) (known c.try_take.new.pass) c.args.hands.now
    (λ (view : View). heard_busy c.in-Err.stripe (known c.args.pass.now) (known c.try_take.new.pass) view c.in-Err.ensures.busy.2)

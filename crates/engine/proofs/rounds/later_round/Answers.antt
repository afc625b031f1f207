use Rattle.std.proofs.Common.{◌∙◌, ◌+◌, ℕ, false, sym, ap, subst, rules}
use Rattle.gates.specs.declared.report.Report.TheVariants.{Nothing}
use Rattle.gates.specs.declared.view.Knowledge.{Knowledge}
use Rattle.gates.specs.Passes.{ToldBusy, known, stripes_of}
use Rattle.gates.specs.Helds.{held_stripes, known_to}
use Rattle.transact.specs.declared.call.Answer.TheVariants as answer
use Rattle.transact.specs.declared.call.Call.{Call}
use Rattle.transact.specs.Calls.{call_keys}
use Rattle.plans.specs.Stops.{faults}
use Rattle.engine.specs.Answers.{IsAnswered}
use Rattle.engine.specs.Calls.{promises_of}
use Rattle.engine.specs.Entering.{at_fault, given}
use Rattle.epoch.specs.declared.view.View.{View}
use Rattle.epoch.specs.Seats as epoch
use Rattle.engine.specs.Stops.{HasHeardWith}
use Rattle.engine.specs.Visits.{view_of}
use Rattle.epoch.specs.declared.epochs.Inside.{Inside}
use Rattle.shards.specs.Heard.{HasHeard}
use Rattle.transact.specs.Submits.{asked_for}
use Rattle.engine.specs.Passes.{know}
use Rattle.engine.specs.Stops.{fault_of}
use Rattle.engine.proofs.Entering.{given_here, heard_nothing, may_begin, parts_of}
use Rattle.engine.proofs.Hearing.{heard_after, heard_given, heard_waiting, told_again}
use Rattle.engine.proofs.Behind.{answered_behind, answered_counted}
use Rattle.engine.proofs.Later.{failed_outside, this_failed}
use Rattle.engine.proofs.rounds.later_round.Goals as goal

pub enter-requires-clause-begin : goal.enter-requires-clause-begin
enter-requires-clause-begin g c =
    let call : Call = g.E.Enters.call_of c.args.asking.now.call.now in
    may_begin g.R.Shows.is_steady call c.args.site.now.gates.now c.args.asking.now.wanted.now _ c.take-held.result
    (c.stripes_hold_keys.ensures (stripes_of c.args.site.now.gates.now) (parts_of g.R.Shows.is_steady c.take-held.result) c.args.asking.now.wanted.now (call_keys call) c.requires.wanted.are c.take-held.ensures.has) c.take-held.ensures c.requires.may

pub give_back-requires : goal.give_back-requires
give_back-requires g c =
    record {
      may = given_here g.R.Shows.is_steady c.in-Ok.entered.ends c.in-Ok.entered.report c.take-held.result c.enter.new.held c.in-Ok.ensures.entered.back;
    }

pub read-requires-clause-may : goal.read-requires-clause-may
read-requires-clause-may g c =
    given_here g.R.Shows.is_steady false Nothing c.take-held.result c.enter.new.held c.in-Err.ensures.cold.back

pub returns-in-Ok-clause-answered : goal.returns-in-Ok-clause-answered
returns-in-Ok-clause-answered g c =
    let before : Knowledge = known c.args.pass.now in
    let mid : Knowledge = known_to c.take-held.result in
    let last = c.give_back.ensures.known in
    let call : Call = g.E.Enters.call_of c.args.asking.now.call.now in
    let promises = promises_of g.R.Shows.is_steady g.R.Shows.lends (stripes_of c.args.site.now.gates.now) in
    let says = g.E.Enters.says c.in-Ok.entered.answer in
    let f0 : ℕ = g.D.Device.failures c.args.device.now in
    let f1 : ℕ = g.D.Device.failures c.enter.new.device in
    subst (λ (k : Knowledge). IsAnswered promises c.args.asking.now.wanted.now call says (know before f0) (know k f1)) (sym (search (rules, last)))
    (answered_behind c.args.asking.now.wanted.now before mid f0 (know (given c.in-Ok.entered.ends c.in-Ok.entered.report (known_to c.enter.new.held)) f1) c.take-held.ensures.learned c.take-held.ensures.told
    promises says call (answered_counted g.R.Shows.is_steady g.R.Shows.lends (held_stripes c.take-held.result) (stripes_of c.args.site.now.gates.now) (ap (λ gates. stripes_of gates) c.take-held.ensures.gates_are) says call _ _ c.in-Ok.ensures.entered.answered))

pub returns-in-Err-read-clause-answered : goal.returns-in-Err-read-clause-answered
returns-in-Err-read-clause-answered g c =
    let before : Knowledge = known c.args.pass.now in
    let mid : Knowledge = known_to c.take-held.result in
    let outside = c.read.ensures.known in
    let left = c.fail.ensures.known in
    let call : Call = g.E.Enters.call_of c.args.asking.now.call.now in
    let stop = c.in-Err-read.stop in
    let cold = c.in-Err.ensures.cold in
    let promises = promises_of g.R.Shows.is_steady g.R.Shows.lends (stripes_of c.args.site.now.gates.now) in
    this_failed promises c.args.asking.now.wanted.now call (g.E.Enters.says c.fail.result) (fault_of stop) _ _ (c.fail.ensures.answer ∙ ap answer.Fault c.told_of-fault.ensures.fault)
    (failed_outside promises call c.args.asking.now.wanted.now stop before mid _ left.taken _ (g.D.Device.failures c.args.device.now) (g.D.Device.failures c.read.new.device)
    cold.planned.entry cold.planned.other cold.unlent c.take-held.ensures.learned c.take-held.ensures.told
    (search (rules, outside) ∙ cold.known) left.learned left.told left.is
    c.told_of-fault.ensures.never_cold c.in-Err-read.ensures.came.never_full (c.in-Err-read.ensures.came.faults ∙ ap (λ (f : ℕ). f + faults stop) cold.no_fault))

pub returns-in-Ok-clause-told : goal.returns-in-Ok-clause-told
returns-in-Ok-clause-told g c =
    let before : Knowledge = known c.args.pass.now in
    let mid : Knowledge = known_to c.take-held.result in
    let call : Call = g.E.Enters.call_of c.args.asking.now.call.now in
    let promises = promises_of g.R.Shows.is_steady g.R.Shows.lends (held_stripes c.take-held.result) in
    let entered = c.in-Ok.entered in
    let noted : Knowledge = known_to c.enter.new.held in
    let f0 : ℕ = g.D.Device.failures c.args.device.now in
    let f1 : ℕ = g.D.Device.failures c.enter.new.device in
    let had : View = view_of c.args.visit.now in
    let has : View = view_of c.enter.new.self in
    let last = c.give_back.ensures.known in
    subst (λ (k : Knowledge). HasHeardWith before k had has) (sym (search (rules, last)))
    (heard_after c.args.asking.now.wanted.now before mid (given entered.ends entered.report noted) had had has c.take-held.ensures.told (heard_nothing had)
    (heard_given g.E.Enters.says entered promises call mid noted f0 f1 had has c.in-Ok.ensures.heard c.in-Ok.ensures.entered.answered))

pub returns-in-Err-read-clause-told : goal.returns-in-Err-read-clause-told
returns-in-Err-read-clause-told g c =
    let before : Knowledge = known c.args.pass.now in
    let mid : Knowledge = known_to c.take-held.result in
    let wanted = c.args.asking.now.wanted.now in
    let outside = c.read.ensures.known in
    let left = c.fail.ensures.known in
    let at : Knowledge = at_fault (asked_for (g.E.Enters.call_of c.args.asking.now.call.now)) left.taken in
    let told : ToldBusy wanted before at = told_again wanted before mid _ left.taken c.take-held.ensures.told left.learned left.told (search (rules, outside) ∙ c.in-Err.ensures.cold.known) in
    let had : View = view_of c.args.visit.now in
    let has : View = view_of c.read.new.self in
    let went : HasHeard had has = subst (λ (s : Inside). HasHeard had (epoch.known (epoch.seat_in s))) (sym c.read.ensures.same) c.in-Err.ensures.heard in
    subst (λ (k : Knowledge). HasHeardWith before k had has) (sym left.is) (heard_waiting wanted before at had has told went)

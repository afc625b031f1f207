use Rattle.std.proofs.Common.{refl, subst}
use Rattle.gates.specs.declared.view.Knowledge.{Knowledge}
use Rattle.epoch.specs.declared.epochs.EpochSeat.{EpochSeat}
use Rattle.plans.specs.declared.hands.Hands.{Hands}
use Rattle.gates.specs.Passes.{known, stripes_of}
use Rattle.engine.specs.Calls.{promises_of}
use Rattle.engine.specs.Passes.{know}
use Rattle.epoch.specs.declared.view.View.{View}
use Rattle.epoch.specs.Seats as epoch
use Rattle.engine.specs.Stops.{HasHeardWith}
use Rattle.engine.specs.Visits.{view_of}
use Rattle.engine.proofs.Later.{answered_waited, may_submit_still}
use Rattle.engine.proofs.Hearing.{heard_after, some_hands, with_same}
use Rattle.engine.proofs.rounds.run.Goals as goal

pub later_rounds-answer-requires-clause-may : goal.later_rounds-answer-requires-clause-may
later_rounds-answer-requires-clause-may g c =
    may_submit_still g.R.Shows.is_steady c.args.site.now.gates.now (g.E.Enters.call_of c.args.asking.now.call.now) c.args.pass.now c.first_round.new.pass _ _ c.args.asking.now.wanted.now c.requires.may
    c.first_round.ensures.rests c.in-Err.ensures.waited

pub returns-in-Err-clause-answered : goal.returns-in-Err-clause-answered
returns-in-Err-clause-answered g c =
    answered_waited (promises_of g.R.Shows.is_steady g.R.Shows.lends (stripes_of c.args.site.now.gates.now)) c.args.asking.now.wanted.now (g.E.Enters.call_of c.args.asking.now.call.now) (g.E.Enters.says c.later_rounds-answer.result)
    (known c.args.pass.now, g.D.Device.failures c.args.device.now) (known c.first_round.new.pass, g.D.Device.failures c.first_round.new.device) (know (known c.later_rounds-answer.new.pass) (g.D.Device.failures c.later_rounds-answer.new.device))
    c.in-Err.ensures.waited c.later_rounds-answer.ensures.answered

pub returns-in-Err-clause-hands : goal.returns-in-Err-clause-hands
returns-in-Err-clause-hands g c = (c.end.result, refl, record { outside = c.end.ensures.outside; none = c.end.ensures.none })

pub returns-in-Err-clause-heard : goal.returns-in-Err-clause-heard
returns-in-Err-clause-heard g c = λ before later one two.
    let was : Knowledge = known c.args.pass.now in
    let mid : Knowledge = known c.first_round.new.pass in
    let last : Knowledge = known c.later_rounds-answer.new.pass in
    let had : View = epoch.known before.own in
    let between : View = view_of c.in-Err.visit in
    let left : View = view_of c.later_rounds-answer.new.visit in
    let heard : HasHeardWith was last had left = heard_after c.args.asking.now.wanted.now was mid last had between left c.in-Err.ensures.waited.told (c.in-Err.ensures.begun before one) c.later_rounds-answer.ensures.heard in
    subst (λ (h : Hands _ EpochSeat). HasHeardWith was last had (epoch.known h.own)) (some_hands c.end.result later two) (with_same was last had left (epoch.known c.end.result.own) heard c.end.ensures.same)

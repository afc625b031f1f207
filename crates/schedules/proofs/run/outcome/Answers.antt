use Rattle.std.proofs.Common.{◌≡◌, List, subst}
use Rattle.std.proofs.lemmas.Result.{IfOk-weaker}
use Rattle.world_model.specs.declared.event.Event.{Event}
use Rattle.world_model.specs.States.{State}
use Rattle.world_model.specs.Turns.{Turns}
use Rattle.world.specs.Tables.{state_of}
use Rattle.schedules.proofs.Ending.{reported}
use Rattle.schedules.proofs.run.outcome.Goals as goal

pub returns : goal.returns
returns c =
    let limits = c.args.schedule.now.limits in
    let events = c.args.schedule.now.events.items in
    let mid : State = state_of c.in-Ok.world in
    let turns = subst (λ (state : State). Turns state events mid) c.in_ok-world.ensures.start
    (subst (λ (all : List Event). Turns (state_of c.in_ok-world.world) all mid) c.as_slice.ensures.value c.in-Ok.ensures.turns) in
    IfOk-weaker c.report_of-report.result _ _
    (λ report is.
    reported c.args.until limits events mid (state_of c.in_ok-world-2.world) report.items turns c.in_ok-world-2.ensures.ended
    c.in_ok-world-2.ensures.headline is)
    c.report_of-report.ensures

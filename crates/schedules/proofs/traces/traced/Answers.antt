use Rattle.std.proofs.Common.{◌∙◌, ◌+◌, ◌++◌, List, ap, arith, subst}
use Rattle.words.specs.Store.{Bytes}
use Rattle.world_model.specs.declared.event.Event.{Event}
use Rattle.world_model.specs.States.{State}
use Rattle.world.specs.Tables.{state_of}
use Rattle.schedules.specs.Traces.{IsTrace}
use Rattle.schedules.proofs.Ending.{all_traced, trace_some}
use Rattle.schedules.proofs.traces.traced.Goals as goal

pub follow_until-requires-clause-few : goal.follow_until-requires-clause-few
follow_until-requires-clause-few c =
    omega (
      arith,
      c.len-first.ensures,
      c.as_slice.ensures.len,
      trace_some 2 (state_of c.in_ok-world.world) (state_of c.in_ok-world-2.world) c.as_slice.result.now c.in_ok-world-2.text.items
          c.in_ok-world-2.ensures.trace,
    )

pub returns : goal.returns
returns c =
    let events = c.args.schedule.now.events.items in
    let mid : State = state_of c.in_ok-world-2.world in
    let after : State = state_of c.in_ok-world-3.world in
    let lines = c.in_ok-world-2.text.items in
    let more = c.follow_until.new.lines.items in
    let trace = subst (λ (state : State). IsTrace 2 state events mid lines) c.in_ok-world.ensures.start
    (subst (λ (all : List Event). IsTrace 2 (state_of c.in_ok-world.world) all mid lines) c.as_slice.ensures.value c.in_ok-world-2.ensures.trace) in
    all_traced c.args.until c.args.schedule.now.limits events (c.len-first.result + 2) mid after lines more c.extend_from_slice.new.self.items trace
    (omega (arith, c.len-first.ensures)) c.in_ok-world-3.ensures.lines
    (c.sound_worlds_tell_the_truth.ensures.headline after c.in_ok-world-3.ensures.world.sound)
    (c.in_ok-extend_from_slice.ensures.items ∙ ap (λ (l : Bytes). more ++ l) (c.as_slice-2.ensures.value ∙ c.in_ok-report.ensures))

use Rattle.std.proofs.Common.{◌≡◌, ◌∙◌, ◌+◌, ◌-◌, List, ◌∷◌, length, ap, arith, subst, sym}
use Rattle.world_model.specs.declared.event.Event.{Event}
use Rattle.world.specs.Tables.{state_of}
use Rattle.schedules.specs.Traces.{IsTrace}
use Rattle.schedules.proofs.Tracing.{line_before, no_more, none_left}
use Rattle.schedules.proofs.traces.follow.Goals as goal

pub loop-event-preserved : goal.loop-event-preserved
loop-event-preserved c =
    let inv = c.loop-event.invariant in
    let others = c.in-Some.others.now in
    let number = length c.args.events.now - length c.loop-event.left.now + 2 in
    let is : c.loop-event.left.now ≡ c.in-Some.event.now ∷ others = c.in-Some.ensures.cases.0 in
    let count : length c.loop-event.left.now ≡ length others + 1 = ap length is ∙ omega arith in
    record {
      world = c.in_ok-world.ensures.world;
      fewer = omega (arith, inv.fewer, count);
      leads = λ after rest trace.
          line_before 2 number (length c.args.events.now - length others + 2) (state_of c.args.world) (state_of c.loop-event.world)
          (state_of c.in_ok-world.world) after c.in-Some.event.now c.args.events.now others c.loop-event.lines.items c.step.new.lines.items rest
          (λ last text more. inv.leads last text (subst (λ (l : List Event). IsTrace number (state_of c.loop-event.world) l last text) (sym is) more))
          c.in_ok-world.ensures.turn c.in_ok-world.ensures.line (omega (arith, inv.fewer, count)) trace;
    }

pub returns-clause-trace : goal.returns-clause-trace
returns-clause-trace c =
    let number = length c.args.events.now - length c.loop-event.left.now + 2 in
    no_more 2 number (state_of c.args.world) (state_of c.loop-event.world) c.args.events.now c.loop-event.lines.items
    (λ after rest trace. c.loop-event.invariant.leads after rest
    (subst (λ (l : List Event). IsTrace number (state_of c.loop-event.world) l after rest)
    (none_left c.loop-event.left.now c.in_default.ensures.cases) trace))

use Rattle.std.proofs.Common.{arith}
use Rattle.world.specs.Tables.{state_of}
use Rattle.schedules.proofs.Ending.{goes_more, line_more}
use Rattle.schedules.proofs.traces.follow_to_rest.Goals as goal

pub loop-event-preserved : goal.loop-event-preserved
loop-event-preserved c =
    let number = c.loop-event.number in
    let now = state_of c.loop-event.world in
    let next = state_of c.in_ok-world.world in
    let e = c.in-Some.event in
    let old = c.loop-event.lines.items in
    let new = c.step_on.new.lines.items in
    record {
      world = c.in_ok-world.ensures.world;
      few = omega (arith, c.loop-event.invariant.few, line_more number e now next old new c.in_ok-world.ensures.line);
      goes =
          goes_more c.args.first number (state_of c.args.world) now next c.args.lines.now.items old new e c.loop-event.invariant.goes
          c.in-Some.ensures.of_call c.in_ok-world.ensures.turn c.in_ok-world.ensures.line;
    }

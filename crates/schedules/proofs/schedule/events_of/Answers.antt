use Rattle.std.proofs.Common.{rules, arith, ap, sym, subst, length}
use Rattle.schedules.specs.Lines.{AreEvents}
use Rattle.schedules.proofs.Texts.{one_more, long_line, was_ok}
use Rattle.schedules.proofs.schedule.events_of.Goals as goal

pub loop-rest-preserved : goal.loop-rest-preserved
loop-rest-preserved c =
    let found = was_ok c.next_event.result c.map_err.result c.in_ok-next.next _ c.in_ok-next.was c.map_err.ensures.cases in
    let pushed = was_ok c.push.result c.map_err-in-loop-rest.result c.in_ok-map_err.field-0 _ c.in_ok-map_err.was c.map_err-in-loop-rest.ensures.cases in
    let next = rw (found, c.in-Some.is) at c.next_event.ensures in
    let items = rw pushed at c.push.ensures.items in
    let len = rw pushed at c.push.ensures.len in
    let rest_len = ap length next.1 in
    let long = long_line c.args.limits.now c.in-Some.event c.in-Some.more.now next.0 in
    record {
      are =
          subst (λ events. AreEvents c.args.limits.now c.args.text.now events c.in-Some.more.now) (sym items)
          (one_more c.args.limits.now c.args.text.now c.loop-rest.events.items c.loop-rest.rest.now c.in-Some.event c.in-Some.more.now c.loop-rest.invariant.are next);
      short = omega arith;
    }

pub returns-in_default-clause-bad : goal.returns-in_default-clause-bad
returns-in_default-clause-bad c = search rules

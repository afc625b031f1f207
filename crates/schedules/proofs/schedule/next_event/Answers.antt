use Rattle.schedules.proofs.Texts.{no_next, no_next_of, next_of}
use Rattle.schedules.proofs.schedule.next_event.Goals as goal

pub returns-in_default : goal.returns-in_default
returns-in_default c = no_next c.args.limits.now c.args.text.now c.in_default.ensures

pub returns-in-None : goal.returns-in-None
returns-in-None c =
    no_next_of c.args.limits.now c.args.text.now c.in-Some.line.now c.in-Some.rest.now c.in-Some.ensures
    (rw c.in-None.is at c.in_ok-event.ensures)

use Rattle.schedules.proofs.Running.{shown_of}
use Rattle.schedules.proofs.run.show.Goals as goal

pub returns-in-BadLine : goal.returns-in-BadLine
returns-in-BadLine c = c.in-Err.ensures.bad c.in-BadLine.number c.in-BadLine.is

pub returns-in-Ok-lines_of : goal.returns-in-Ok-lines_of
returns-in-Ok-lines_of c =
    shown_of c.args.shown c.args.until c.args.text.now c.in-Ok-lines_of.lines.items c.in-Ok.schedule.limits c.in-Ok.schedule.events.items c.in-Ok.ensures.schedule
    c.in-Ok-lines_of.ensures

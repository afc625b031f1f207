use Rattle.schedules.proofs.Spellings.{no_event, event_of_two, event_of_three_ok}
use Rattle.schedules.proofs.lines.event_of.Goals as goal

pub returns-in_default : goal.returns-in_default
returns-in_default c = no_event c.args.limits.now c.args.line.now c.in_default.ensures

pub returns-in-None : goal.returns-in-None
returns-in-None c =
    event_of_two c.args.limits.now c.args.line.now c.in-Some.name.now c.in-Some.words.now c.event_of_number.result
    c.in-Some.ensures c.in-None.ensures c.event_of_number.ensures

pub returns-in-Some-cut : goal.returns-in-Some-cut
returns-in-Some-cut c =
    event_of_three_ok c.args.limits.now c.args.line.now c.in-Some.name.now c.in-Some.words.now c.in-Some-cut.first.now c.in-Some-cut.second.now
    c.event_of_two.result c.in-Some.ensures c.in-Some-cut.ensures c.event_of_two.ensures

use Rattle.std.proofs.Common.{rules}
use Rattle.schedules.proofs.run.lines_of.Goals as goal

pub returns-in-Report : goal.returns-in-Report
returns-in-Report c = search rules

pub returns-in-Trace : goal.returns-in-Trace
returns-in-Trace c = search rules

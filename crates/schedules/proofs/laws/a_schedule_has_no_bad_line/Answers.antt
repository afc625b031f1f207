use Rattle.schedules.proofs.OneReading.{no_bad_line}
use Rattle.schedules.proofs.laws.a_schedule_has_no_bad_line.Goals as goal

pub returns : goal.returns
returns c = no_bad_line

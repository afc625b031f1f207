use Rattle.std.proofs.Common.{rules}
use Rattle.watch.proofs.seats.Seats.touch.Goals as goal

pub returns : goal.returns
returns c = search rules

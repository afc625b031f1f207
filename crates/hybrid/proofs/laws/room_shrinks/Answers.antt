use Rattle.hybrid.proofs.Tail.{room-none, room-less}
use Rattle.hybrid.proofs.laws.room_shrinks.Goals as goal

pub returns : goal.returns
returns c = record { none = room-none; less = room-less }

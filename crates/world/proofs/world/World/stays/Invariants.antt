use Rattle.std.proofs.Common.{◌≡◌, map, take}
use Rattle.world.proofs.world.World.stays.Given as goal

abbrev pub invariant-loop-member : goal.invariant-loop-member
invariant-loop-member l = l.stays.items ≡ map (λ one. one.desk.stay) (take l.member-index l.self.members.items)

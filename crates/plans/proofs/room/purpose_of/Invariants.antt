use Rattle.std.proofs.Common.{◌≡◌, drop}
use Rattle.shards.specs.Rooms.{purpose_of}
use Rattle.plans.proofs.room.purpose_of.Given as goal

abbrev pub invariant-loop-write : goal.invariant-loop-write
invariant-loop-write l = purpose_of (drop l.write-index l.writes) ≡ purpose_of l.writes

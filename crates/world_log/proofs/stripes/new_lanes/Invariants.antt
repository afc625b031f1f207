use Rattle.world_log.specs.Lanes.{AreNewLanes}
use Rattle.world_log.proofs.stripes.new_lanes.Given as goal

abbrev pub invariant-loop : goal.invariant-loop
invariant-loop l = AreNewLanes l.counter l.limits.frames l.limits.places l.lanes.items

use Rattle.world_log.proofs.Beginning.{no_lanes, one_lane_more}
use Rattle.world_log.proofs.stripes.new_lanes.Goals as goal

pub loop-init : goal.loop-init
loop-init c = no_lanes c.args.limits.now.frames c.args.limits.now.places c.new-lanes.result.items c.new-lanes.ensures.items

pub loop-preserved : goal.loop-preserved
loop-preserved c =
    one_lane_more c.loop.counter c.args.limits.now.frames c.args.limits.now.places c.loop.lanes.items c.push.new.self.items c.in_ok-lane.lane
    c.loop.invariant c.in_ok-lane.ensures c.in-Ok.ensures.items

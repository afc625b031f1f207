use Rattle.world.proofs.Beginning.{start_is, world_is}
use Rattle.world.proofs.world.World.new.Goals as goal

pub returns-clause-start : goal.returns-clause-start
returns-clause-start c =
    start_is _ c.args.limits.now.stripes c.args.limits.now.clients c.args.limits.now.frames c.args.limits.now.places c.in-Ok.ensures.start
    c.in_ok-members.ensures c.new-2.ensures.items

pub returns-clause-world : goal.returns-clause-world
returns-clause-world c =
    world_is c.laws.ensures.turns _ c.args.limits.now.stripes c.args.limits.now.clients c.args.limits.now.frames c.args.limits.now.places c.in-Ok.ensures.start
    c.in-Ok.ensures.log c.in_ok-members.ensures c.new-2.ensures.items

use Rattle.std.proofs.Common.{length}
use Rattle.world_log.specs.Stripes.{acts_for, lent}
use Rattle.world.proofs.Installing.{ended_there}
use Rattle.world.proofs.Putting.{lent_all}
use Rattle.world.proofs.planning.end_watches.Goals as goal

pub forget_watched-requires-clause-there : goal.forget_watched-requires-clause-there
forget_watched-requires-clause-there c =
    let stripes = c.args.log.now.stripes in
    rw c.in-Exec.is at
    (ended_there (length stripes.holders.items) (lent (acts_for stripes c.args.client)) c.args.call.now (lent_all stripes c.args.client c.args.call.now c.requires.log.even c.requires.all))

pub forget_watched-requires-in-Forget-clause-there : goal.forget_watched-requires-in-Forget-clause-there
forget_watched-requires-in-Forget-clause-there c =
    let stripes = c.args.log.now.stripes in
    rw c.in-Forget.is at
    (ended_there (length stripes.holders.items) (lent (acts_for stripes c.args.client)) c.args.call.now (lent_all stripes c.args.client c.args.call.now c.requires.log.even c.requires.all))

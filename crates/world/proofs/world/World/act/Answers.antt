use Rattle.std.proofs.Common.{length, ◌<◌, arith, subst, Bool}
use Rattle.world.specs.Tables.{Handles}
use Rattle.world.proofs.Acting.{acted_world}
use Rattle.world.proofs.world.World.act.Goals as goal

pub returns-clause-world : goal.returns-clause-world
returns-clause-world c =
    let below : c.args.client < length c.args.self.now.members.items = omega (arith, c.if-client-len.false, c.len.ensures) in
    acted_world c.laws.ensures.turns c.args.self.now c.handle.new.self c.go_on.new.self c.args.client c.args.event.now c.requires.actor below c.requires.world
    (subst (λ (t : Bool). Handles t c.args.self.now c.args.client c.args.event.now c.handle.new.self) c.if-not-branch.false c.in_ok-handle.ensures.handles)
    c.in_ok-go_on.ensures.goes c.in_ok-go_on.ensures.same

use Rattle.std.proofs.Common.{◌∙◌, ap, arith, map}
use Rattle.std.proofs.lemmas.List.{take_all}
use Rattle.world.specs.declared.member.Member.{Member}
use Rattle.world.proofs.Members.{stays_are}
use Rattle.world.proofs.world.World.stays.Goals as goal

pub returns : goal.returns
returns c =
    let members = c.args.self.now.members.items in
    c.loop-member.invariant ∙ ap (λ ms. map (λ (one : Member). one.desk.stay) ms) (take_all c.loop-member.member-index members (omega arith)) ∙ stays_are members

use Rattle.world.proofs.Worlds.{endable_last}
use Rattle.world.proofs.world.end_members.Goals as goal

pub loop-member-init : goal.loop-member-init
loop-member-init c = c.requires

pub end_member-requires : goal.end_member-requires
end_member-requires c = (endable_last c.pop.new.self.items c.in-Some.member (rw c.in-Some.ensures.items at c.loop-member.invariant)).1

pub loop-member-preserved : goal.loop-member-preserved
loop-member-preserved c = (endable_last c.pop.new.self.items c.in-Some.member (rw c.in-Some.ensures.items at c.loop-member.invariant)).0

use Rattle.std.proofs.Common.{refl, sym, subst}
use Rattle.world_model.specs.States.{ClientState}
use Rattle.world.specs.Peers.{IsEndable}
use Rattle.world.specs.declared.member.Member.{Member}
use Rattle.world.proofs.Committing.{leaves_by, leaving_there, on_forget}
use Rattle.world.proofs.Worlds.{endable_set, read_at}
use Rattle.world.proofs.world.World.let_go.Goals as goal

pub forget_watched-requires-clause-there : goal.forget_watched-requires-clause-there
forget_watched-requires-clause-there c =
    let one : Member = c.index_mut-member.result.now in
    let there = read_at c.args.self.now.members.items c.args.client _ c.index_mut-member.result.now c.args.self.now.members.ok.0 c.requires.within c.index_mut-member.ensures.value in
    leaving_there c.args.self.now c.args.client one c.in-Forget.watching.now c.requires.world.log there c.requires.enabled
    (on_forget one.peer.phase c.in-Forget.watching c.in-Forget.ensures)

pub returns-clause-commits : goal.returns-clause-commits
returns-clause-commits c =
    let one : Member = c.index_mut-member.result.now in
    let there = read_at c.args.self.now.members.items c.args.client _ c.index_mut-member.result.now c.args.self.now.members.ok.0 c.requires.within c.index_mut-member.ensures.value in
    leaves_by c.plan_laws.ensures.plans c.args.self.now _ c.args.client one c.left.new.self c.in-Forget.watching.now c.requires.world there
    (on_forget one.peer.phase c.in-Forget.watching c.in-Forget.ensures) c.left.ensures refl refl c.forget_watched.ensures

pub returns-clause-endable : goal.returns-clause-endable
returns-clause-endable c =
    endable_set c.args.self.now.members.items c.args.client (record { peer = c.left.new.self; desk = c.index_mut-member.result.now.desk }) c.rests.ensures.endable
    (subst (λ (p : ClientState). IsEndable p.phase) (sym c.left.ensures) tt)

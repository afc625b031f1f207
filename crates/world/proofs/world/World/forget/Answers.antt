use Rattle.std.proofs.Common.{ap, refl}
use Rattle.world_model.specs.States.{open_call}
use Rattle.world.specs.Peers.{IsForgetting}
use Rattle.world.specs.declared.member.Member.{Member}
use Rattle.world.proofs.Committing.{call_all, forgets_by, forgets_nothing, phase_here}
use Rattle.world.proofs.Moving.{commit_parts}
use Rattle.world.proofs.Worlds.{endable_set, on_call, read_at}
use Rattle.world.proofs.PeerSteps.{on_both}
use Rattle.world.proofs.world.World.forget.Goals as goal

pub end_watches-requires-clause-all : goal.end_watches-requires-clause-all
end_watches-requires-clause-all c =
    let one : Member = c.index_mut-member.result.now in
    let there = read_at c.args.self.now.members.items c.args.client _ c.index_mut-member.result.now c.args.self.now.members.ok.0 c.requires.within c.index_mut-member.ensures.value in
    let on = on_call one.peer.phase c.in-Call.call c.in-Call.ensures in
    call_all c.args.self.now c.args.client one c.in-Call.call.now there c.requires.enabled (ap open_call on.1)

pub returns-clause-commits : goal.returns-clause-commits
returns-clause-commits c =
    let one : Member = c.index_mut-member.result.now in
    let there = read_at c.args.self.now.members.items c.args.client _ c.index_mut-member.result.now c.args.self.now.members.ok.0 c.requires.within c.index_mut-member.ensures.value in
    let on = on_call one.peer.phase c.in-Call.call c.in-Call.ensures in
    on_both c.forget.result
    (λ forgotten steady. forgets_by c.plan_laws.ensures.plans c.args.self.now _ c.args.client one c.end_call-plan.new.self c.forget.new.self on.0 c.in-Call.call.now
    c.requires.world there on.1 (commit_parts c.args.self.now c.args.client one there c.requires.enabled).none
    (forgets_nothing one.peer.phase on.0 c.in-Call.call.now on.1 (phase_here c.args.self.now c.args.client one IsForgetting there c.requires.forgetting))
    forgotten steady c.end_call-plan.ensures.done c.end_call-plan.ensures.nothing c.end_call-plan.ensures.staged refl refl c.end_watches.ensures)
    c.forget.ensures.forgotten c.forget.ensures.steady

pub returns-clause-endable : goal.returns-clause-endable
returns-clause-endable c =
    endable_set c.args.self.now.members.items c.args.client (record { peer = c.forget.new.self; desk = c.end_call-plan.new.self }) c.rests.ensures.endable c.forget.ensures.endable

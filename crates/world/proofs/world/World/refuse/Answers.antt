use Rattle.world.specs.declared.member.Member.{Member}
use Rattle.std.proofs.Common.{refl}
use Rattle.world.proofs.Committing.{refuses_by, stage_full}
use Rattle.world.proofs.Moving.{commit_parts}
use Rattle.world.proofs.Worlds.{endable_set, on_call, read_at}
use Rattle.world.proofs.PeerSteps.{on_both}
use Rattle.world.proofs.world.World.refuse.Goals as goal

pub returns-clause-commits : goal.returns-clause-commits
returns-clause-commits c =
    let one : Member = c.index_mut-member.result.now in
    let there = read_at c.args.self.now.members.items c.args.client _ c.index_mut-member.result.now c.args.self.now.members.ok.0 c.requires.within c.index_mut-member.ensures.value in
    let on = on_call one.peer.phase c.in-Call.call c.in-Call.ensures in
    on_both c.refuse.result
    (λ refused steady. refuses_by c.plan_laws.ensures.plans c.args.self.now _ c.args.client one c.end_call-plan.new.self c.refuse.new.self on.0 c.in-Call.call.now
    c.requires.world there on.1 (commit_parts c.args.self.now c.args.client one there c.requires.enabled).none (stage_full one.desk.plan (c.requires.full one there))
    refused steady c.end_call-plan.ensures.done c.end_call-plan.ensures.nothing c.end_call-plan.ensures.staged refl refl c.end_watches.ensures)
    c.refuse.ensures.refused c.refuse.ensures.steady

pub returns-clause-endable : goal.returns-clause-endable
returns-clause-endable c =
    endable_set c.args.self.now.members.items c.args.client (record { peer = c.refuse.new.self; desk = c.end_call-plan.new.self }) c.rests.ensures.endable c.refuse.ensures.endable

use Rattle.std.proofs.Common.{◌∙◌, ap, sym, subst}
use Rattle.world_model.specs.States.{open_call}
use Rattle.world.specs.Peers.{IsAsking, IsSteady}
use Rattle.world.specs.declared.member.Member.{Member}
use Rattle.world.proofs.Committing.{call_all, phase_here, runs_by}
use Rattle.world.proofs.Handling.{steady_here}
use Rattle.world.proofs.Settling.{entry_at}
use Rattle.world.proofs.Worlds.{endable_set, ok_then, on_call, read_at, set_here, some_same}
use Rattle.world.proofs.world.World.run_now.Goals as goal

pub run-requires-clause-entry : goal.run-requires-clause-entry
run-requires-clause-entry c =
    let one : Member = c.index_mut-member.result.now in
    let there = read_at c.args.self.now.members.items c.args.client _ c.index_mut-member.result.now c.args.self.now.members.ok.0 c.requires.within c.index_mut-member.ensures.value in
    let on = on_call one.peer.phase c.in-Call.call c.in-Call.ensures in
    (entry_at one.peer.watches one.peer.phase on.0 c.in-Call.call.now on.1 (steady_here c.args.self.now c.args.client one c.requires.world there)
    (phase_here c.args.self.now c.args.client one IsAsking there c.requires.asking)).0

pub run-requires-clause-place : goal.run-requires-clause-place
run-requires-clause-place c =
    let one : Member = c.index_mut-member.result.now in
    let there = read_at c.args.self.now.members.items c.args.client _ c.index_mut-member.result.now c.args.self.now.members.ok.0 c.requires.within c.index_mut-member.ensures.value in
    let on = on_call one.peer.phase c.in-Call.call c.in-Call.ensures in
    (entry_at one.peer.watches one.peer.phase on.0 c.in-Call.call.now on.1 (steady_here c.args.self.now c.args.client one c.requires.world there)
    (phase_here c.args.self.now c.args.client one IsAsking there c.requires.asking)).1

pub run-requires-clause-all : goal.run-requires-clause-all
run-requires-clause-all c =
    let one : Member = c.index_mut-member.result.now in
    let there = read_at c.args.self.now.members.items c.args.client _ c.index_mut-member.result.now c.args.self.now.members.ok.0 c.requires.within c.index_mut-member.ensures.value in
    let on = on_call one.peer.phase c.in-Call.call c.in-Call.ensures in
    call_all c.args.self.now c.args.client one c.in-Call.call.now there c.requires.enabled (ap open_call on.1)

pub returns-in_err-reply-clause-endable : goal.returns-in_err-reply-clause-endable
returns-in_err-reply-clause-endable c =
    let one : Member = c.index_mut-member.result.now in
    let there = read_at c.args.self.now.members.items c.args.client _ c.index_mut-member.result.now c.args.self.now.members.ok.0 c.requires.within c.index_mut-member.ensures.value in
    endable_set c.args.self.now.members.items c.args.client one c.rests.ensures.endable (c.rests.ensures.endable c.args.client one there)

pub answer-requires-clause-asking : goal.answer-requires-clause-asking
answer-requires-clause-asking c = λ other at.
    let one : Member = c.index_mut-member.result.now in
    let there = read_at c.args.self.now.members.items c.args.client _ c.index_mut-member.result.now c.args.self.now.members.ok.0 c.requires.within c.index_mut-member.ensures.value in
    let same = some_same (sym (set_here c.args.self.now.members.items c.args.client one (record one { desk = c.end_call-plan.new.self }) there) ∙ at) in
    subst (λ (m : Member). IsAsking m.peer.phase × IsSteady m.peer) same
    (phase_here c.args.self.now c.args.client one IsAsking there c.requires.asking, steady_here c.args.self.now c.args.client one c.requires.world there)

pub answer-requires-clause-endable : goal.answer-requires-clause-endable
answer-requires-clause-endable c =
    let one : Member = c.index_mut-member.result.now in
    let there = read_at c.args.self.now.members.items c.args.client _ c.index_mut-member.result.now c.args.self.now.members.ok.0 c.requires.within c.index_mut-member.ensures.value in
    endable_set c.args.self.now.members.items c.args.client (record one { desk = c.end_call-plan.new.self }) c.rests.ensures.endable (c.rests.ensures.endable c.args.client one there)

pub returns-clause-commits : goal.returns-clause-commits
returns-clause-commits c =
    let one : Member = c.index_mut-member.result.now in
    let there = read_at c.args.self.now.members.items c.args.client _ c.index_mut-member.result.now c.args.self.now.members.ok.0 c.requires.within c.index_mut-member.ensures.value in
    let on = on_call one.peer.phase c.in-Call.call c.in-Call.ensures in
    ok_then c.answer.result
    (runs_by c.plan_laws.ensures.history c.plan_laws.ensures.plans c.args.self.now c.answer.new.self c.args.client one c.end_call-plan.new.self on.0 c.in-Call.call.now
    c.in_ok-reply.reply c.run.new.log c.requires.world there c.requires.enabled on.1 (c.requires.nothing one there)
    c.end_call-plan.ensures.done c.end_call-plan.ensures.nothing c.end_call-plan.ensures.staged c.in_ok-reply.ensures.run)
    c.answer.ensures.answered

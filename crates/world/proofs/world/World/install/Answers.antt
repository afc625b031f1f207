use Rattle.std.proofs.Common.{◌∙◌, ap, sym, subst}
use Rattle.world_model.specs.States.{open_call}
use Rattle.world.specs.Peers.{IsAsking, IsSteady}
use Rattle.world.specs.Planning.{looks_up}
use Rattle.world.specs.declared.member.Member.{Member}
use Rattle.world.proofs.Committing.{call_all, installs_by, made_call, made_kept, made_roomy, phase_here}
use Rattle.world.proofs.Handling.{steady_here}
use Rattle.world.proofs.Worlds.{endable_set, ok_then, on_call, read_at, set_here, some_same}
use Rattle.world.proofs.world.World.install.Goals as goal

pub install-reply-requires-clause-looks : goal.install-reply-requires-clause-looks
install-reply-requires-clause-looks c =
    let one : Member = c.index_mut-member.result.now in
    let there = read_at c.args.self.now.members.items c.args.client _ c.index_mut-member.result.now c.args.self.now.members.ok.0 c.requires.within c.index_mut-member.ensures.value in
    let on = on_call one.peer.phase c.in-Call.call c.in-Call.ensures in
    let kept = made_kept c.args.self.now c.args.client one c.in-Made.planned c.requires.world there c.in-Made.ensures.plan in
    ap looks_up (sym (made_call c.args.self.now c.args.client one on.0 c.in-Call.call.now c.in-Made.planned there on.1 kept)) ∙ kept.looks

pub install-reply-requires-clause-all : goal.install-reply-requires-clause-all
install-reply-requires-clause-all c =
    let one : Member = c.index_mut-member.result.now in
    let there = read_at c.args.self.now.members.items c.args.client _ c.index_mut-member.result.now c.args.self.now.members.ok.0 c.requires.within c.index_mut-member.ensures.value in
    let on = on_call one.peer.phase c.in-Call.call c.in-Call.ensures in
    call_all c.args.self.now c.args.client one c.in-Call.call.now there c.requires.enabled (ap open_call on.1)

pub install-reply-requires-clause-room : goal.install-reply-requires-clause-room
install-reply-requires-clause-room c =
    let one : Member = c.index_mut-member.result.now in
    let there = read_at c.args.self.now.members.items c.args.client _ c.index_mut-member.result.now c.args.self.now.members.ok.0 c.requires.within c.index_mut-member.ensures.value in
    made_roomy c.args.self.now c.args.client c.in-Made.planned
    (made_kept c.args.self.now c.args.client one c.in-Made.planned c.requires.world there c.in-Made.ensures.plan)

pub install-reply-requires-clause-fits : goal.install-reply-requires-clause-fits
install-reply-requires-clause-fits c =
    let one : Member = c.index_mut-member.result.now in
    let there = read_at c.args.self.now.members.items c.args.client _ c.index_mut-member.result.now c.args.self.now.members.ok.0 c.requires.within c.index_mut-member.ensures.value in
    (made_kept c.args.self.now c.args.client one c.in-Made.planned c.requires.world there c.in-Made.ensures.plan).fits

pub answer-requires-clause-asking : goal.answer-requires-clause-asking
answer-requires-clause-asking c = λ other at.
    let one : Member = c.index_mut-member.result.now in
    let there = read_at c.args.self.now.members.items c.args.client _ c.index_mut-member.result.now c.args.self.now.members.ok.0 c.requires.within c.index_mut-member.ensures.value in
    let same = some_same (sym (set_here c.args.self.now.members.items c.args.client one (record one { desk = c.end_call.new.self }) there) ∙ at) in
    subst (λ (m : Member). IsAsking m.peer.phase × IsSteady m.peer) same
    (phase_here c.args.self.now c.args.client one IsAsking there c.requires.asking, steady_here c.args.self.now c.args.client one c.requires.world there)

pub answer-requires-clause-endable : goal.answer-requires-clause-endable
answer-requires-clause-endable c =
    let one : Member = c.index_mut-member.result.now in
    let there = read_at c.args.self.now.members.items c.args.client _ c.index_mut-member.result.now c.args.self.now.members.ok.0 c.requires.within c.index_mut-member.ensures.value in
    endable_set c.args.self.now.members.items c.args.client (record one { desk = c.end_call.new.self }) c.rests.ensures.endable (c.rests.ensures.endable c.args.client one there)

pub returns-clause-commits : goal.returns-clause-commits
returns-clause-commits c =
    let one : Member = c.index_mut-member.result.now in
    let there = read_at c.args.self.now.members.items c.args.client _ c.index_mut-member.result.now c.args.self.now.members.ok.0 c.requires.within c.index_mut-member.ensures.value in
    let on = on_call one.peer.phase c.in-Call.call c.in-Call.ensures in
    ok_then c.answer.result
    (installs_by c.plan_laws.ensures.plans c.args.self.now c.answer.new.self c.args.client one c.end_call.new.self on.0 c.in-Call.call.now c.install-reply.result
    c.in-Made.planned c.install-reply.new.log c.requires.world there c.requires.enabled on.1 c.in-Made.ensures.plan c.install-reply.ensures.reply
    c.in-Made.ensures.done c.in-Made.ensures.nothing c.in-Made.ensures.staged c.install-reply.ensures.put)
    c.answer.ensures.answered

use Rattle.std.proofs.Common.{◌≡◌, ◌∙◌, ℕ, List, Option, ap, sym, subst}
use Rattle.std.specs.Vec.{with_item}
use Rattle.world_model.specs.States.{ClientState}
use Rattle.world.specs.Members.{HasPlannedFor, IsReadyToPlan}
use Rattle.world.specs.Peers.{IsEndable}
use Rattle.world.specs.Tables.{HasComeTo, rest_of}
use Rattle.world_log.specs.WorldLogs.{stays_of}
use Rattle.world.specs.declared.member.Member.{Member}
use Rattle.world.specs.declared.world.World.{World}
use Rattle.world.proofs.Coming.{comes_to, ready_is, with_plan}
use Rattle.world.proofs.Worlds.{endable_set, ok_then, read_at, some_same}
use Rattle.world.proofs.world.World.plan.Goals as goal

pub plan-requires-clause-ready : goal.plan-requires-clause-ready
plan-requires-clause-ready c =
    let world : World = c.args.self.now in
    let one : Member = c.index_mut.result.now in
    let there = read_at world.members.items c.args.client _ one world.members.ok.0 c.requires.within c.index_mut.ensures.value in
    let same : c.requires.taken.one ≡ one = some_same (sym c.requires.taken.there ∙ there) in
    subst (λ (stays : List (Option ℕ)). IsReadyToPlan world.log c.args.client stays one) (sym (c.as_slice.ensures.value ∙ c.in_ok-stays.ensures))
    (subst (IsReadyToPlan world.log c.args.client (stays_of (rest_of world))) same (ready_is c.laws.ensures.turns c.plan_laws.ensures.plans world c.args.client c.requires.taken c.requires.all))

pub returns-clause-planned : goal.returns-clause-planned
returns-clause-planned c =
    let world : World = c.args.self.now in
    let one : Member = c.index_mut.result.now in
    let there = read_at world.members.items c.args.client _ one world.members.ok.0 c.requires.within c.index_mut.ensures.value in
    let same : c.requires.taken.one ≡ one = some_same (sym c.requires.taken.there ∙ there) in
    let late : c.plan.new.self ≡ (let m : Member = record one { desk = c.plan.new.self.desk } in m) =
    ap (λ (p : ClientState). (let m : Member = record c.plan.new.self { peer = p } in m)) c.plan.ensures.peer in
    ok_then c.plan.result
    (λ planned. subst (λ (m : Member). HasComeTo world c.args.client (record world { members = with_item world.members c.args.client m; log = c.plan.new.log })) (sym late)
    (subst (λ (m : Member). HasComeTo world c.args.client (with_plan world c.args.client m c.plan.new.log c.plan.new.self.desk)) same
    (comes_to c.plan_laws.ensures.history c.plan_laws.ensures.plans world c.args.client c.requires.taken c.plan.new.log c.plan.new.self.desk c.requires.all
    (subst (λ (m : Member). HasPlannedFor world.log c.args.client (stays_of (rest_of world)) m c.plan.new.log c.plan.new.self.desk) (sym same)
    (subst (λ (stays : List (Option ℕ)). HasPlannedFor world.log c.args.client stays one c.plan.new.log c.plan.new.self.desk) (c.as_slice.ensures.value ∙ c.in_ok-stays.ensures) planned)))))
    c.plan.ensures.planned

pub returns-clause-endable : goal.returns-clause-endable
returns-clause-endable c = λ all.
    let world : World = c.args.self.now in
    let one : Member = c.index_mut.result.now in
    let there = read_at world.members.items c.args.client _ one world.members.ok.0 c.requires.within c.index_mut.ensures.value in
    endable_set world.members.items c.args.client c.plan.new.self all (subst (λ (p : ClientState). IsEndable p.phase) (sym c.plan.ensures.peer) (all c.args.client one there))

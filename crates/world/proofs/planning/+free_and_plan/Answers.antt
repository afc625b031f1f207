use Rattle.std.proofs.Common.{◌∙◌, ◌<◌, arith, refl, rules}
use Rattle.plans.specs.Reading.{AreServed}
use Rattle.world_log.specs.Freeing.{HasStepped, waiting_in}
use Rattle.world_log.specs.Places.{Serves, identity}
use Rattle.world_log.specs.PlanLaws.{logs_lent}
use Rattle.world_log.specs.Stripes.{acts_for}
use Rattle.world_log.specs.declared.logs.WorldLog.{WorldLog}
use Rattle.world.specs.Planning.{Again, Frees, Stays}
use Rattle.world.specs.declared.desk.Desk.{Desk}
use Rattle.world.proofs.Ending.{held_all, is_false, is_true, met_right, met_stepped, met_waits, met_within, stepped_both, stepped_free}
use Rattle.world.proofs.Worlds.{ok_then}
use Rattle.world.proofs.planning.+free_and_plan.Goals as goal

pub returns-then-not-released : goal.returns-then-not-released
returns-then-not-released t c =
    Stays c.args.log.now c.args.stripe c.args.desk.now refl c.in_ok-released.ensures.freed
    (is_false c.in_ok-released.released c.if-not-released.true c.in_ok-released.ensures.full) c.in_ok-released.ensures.spent
    (record { due = refl; fetched = refl; stay = refl; right = c.requires.right })

pub plan_with_reads-requires-clause-all : goal.plan_with_reads-requires-clause-all
plan_with_reads-requires-clause-all t c =
    held_all c.args.log.now.stripes c.free_places.new.self.stripes c.args.client c.args.call.now c.in_ok-released.ensures.freed.held.holders c.requires.all

pub plan_with_reads-requires-clause-served : goal.plan_with_reads-requires-clause-served
plan_with_reads-requires-clause-served t c =
    c.requires.served c.free_places.new.self (stepped_free c.args.stays.now c.args.stripe c.args.log.now c.free_places.new.self c.in_ok-released.ensures.freed)

pub free_and_plan-requires : goal.free_and_plan-requires
free_and_plan-requires t c =
    let met = rw c.in-Err-StoreFull.field-0-is at c.in-Err-StoreFull.ensures.full in
    let plans = c.plan_laws.ensures.plans in
    let old = c.args.log.now in
    let free = c.free_places.new.self in
    let late = c.plan_with_reads.new.log in
    let d = c.args.client in
    let call = c.args.call.now in
    let next = c.in-Err-StoreFull.next in
    let freed = c.in_ok-released.ensures.freed in
    let now = c.args.stays.now in
    let log = met_right plans free d call next late freed.log met in
    let all = held_all old.stripes late.stripes d call (met.keeps.holders ∙ freed.held.holders) c.requires.all in
    let below = met_within plans free d call next late freed.log met in
    let right = c.plan_with_reads.ensures.right in
    let fewer = is_true c.in_ok-released.released c.if-not-released.false c.in_ok-released.ensures.fewer in
    let waits = met_waits plans free d call next late freed.log met in
    let stepped = stepped_both now old free late (stepped_free now c.args.stripe old free freed) (met_stepped plans free d call next late freed.log met now) in
    let less : waiting_in late.stripes < waiting_in old.stripes = omega (arith, fewer, waits) in
    let served : (mid : WorldLog) → HasStepped now late mid → AreServed Serves identity mid.device (logs_lent (acts_for mid.stripes d)) =
    λ mid more. c.requires.served mid (stepped_both now old late mid stepped more) in
    search (rules, log, all, below, right, less, served)

pub returns-in-Ok : goal.returns-in-Ok
returns-in-Ok t c =
    Frees c.args.log.now c.args.stripe c.args.desk.now c.free_places.new.self c.in-Ok.planned c.in_ok-released.ensures.freed refl c.in-Ok.ensures.planned
    (record { due = refl; fetched = refl; stay = refl; right = c.plan_with_reads.ensures.right })

pub returns-in-Err-StoreFull : goal.returns-in-Err-StoreFull
returns-in-Err-StoreFull t c =
    let met = rw c.in-Err-StoreFull.field-0-is at c.in-Err-StoreFull.ensures.full in
    ok_then c.free_and_plan.result
    (λ ended. Again c.args.log.now c.args.stripe c.args.desk.now c.free_places.new.self c.plan_with_reads.new.log c.in-Err-StoreFull.next
    (let d : Desk = record c.args.desk.now { staged = c.plan_with_reads.new.staged } in d) c.in_ok-released.ensures.freed met
    (record { due = refl; fetched = refl; stay = refl; right = c.plan_with_reads.ensures.right }) ended)
    c.free_and_plan.ensures

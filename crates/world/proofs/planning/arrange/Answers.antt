use Rattle.std.proofs.Common.{refl, ap}
use Rattle.world.specs.Planning.{Makes, Meets, Names}
use Rattle.world.specs.declared.desk.Desk.{Desk}
use Rattle.world.proofs.Arranging.{keeps_desk, keeps_staged, named_cold, named_right, some_named}
use Rattle.world.proofs.Ending.{held_all, met_right, met_stepped, met_within, stepped_both, stepped_none}
use Rattle.world.proofs.Worlds.{ok_then}
use Rattle.world.proofs.planning.arrange.Goals as goal

pub with_keepers-requires-clause-log : goal.with_keepers-requires-clause-log
with_keepers-requires-clause-log c =
    let cold = rw c.in-Err-Cold.field-0-is at c.in-Err-Cold.ensures.cold in
    named_right c.plan_laws.ensures.plans c.args.log.now c.args.client c.args.call.now c.args.desk.now.staged c.in-Err-Cold.receipts c.plan_call.new.log c.requires.log cold.0

pub with_keepers-requires-clause-cold : goal.with_keepers-requires-clause-cold
with_keepers-requires-clause-cold c =
    let cold = rw c.in-Err-Cold.field-0-is at c.in-Err-Cold.ensures.cold in
    named_cold c.plan_laws.ensures.plans c.args.log.now c.args.client c.args.call.now c.args.desk.now.staged c.in-Err-Cold.receipts c.plan_call.new.log c.requires.log cold.0

pub returns-in-Ok : goal.returns-in-Ok
returns-in-Ok c = Makes c.in-Ok.planned refl c.in-Ok.ensures.planned (keeps_desk c.args.desk.now c.plan_call.new.desk _ c.plan_call.ensures.same c.plan_call.ensures.right)

pub returns-in_ok-desk-in-Err-Cold : goal.returns-in_ok-desk-in-Err-Cold
returns-in_ok-desk-in-Err-Cold c =
    let cold = rw c.in-Err-Cold.field-0-is at c.in-Err-Cold.ensures.cold in
    Names c.in-Err-Cold.receipts cold.0 cold.1
    (some_named c.in-Err-Cold.receipts c.in_ok-desk-in-Err-Cold.field-0.items cold.0.cold.0 c.in_ok-desk-in-Err-Cold.ensures.count)
    c.in_ok-desk-in-Err-Cold.ensures.kept
    (ap (λ (d : Desk). (let x : Desk = record d { due = c.in_ok-desk-in-Err-Cold.field-0; staged = c.plan_call.new.desk.staged } in x)) c.plan_call.ensures.same)
    c.plan_call.ensures.right

pub free_and_plan-requires-clause-log : goal.free_and_plan-requires-clause-log
free_and_plan-requires-clause-log c =
    let met = rw c.in-Err-StoreFull.field-0-is at c.in-Err-StoreFull.ensures.full in
    met_right c.plan_laws.ensures.plans c.args.log.now c.args.client c.args.call.now c.in-Err-StoreFull.stripe c.plan_call.new.log c.requires.log met

pub free_and_plan-requires-clause-all : goal.free_and_plan-requires-clause-all
free_and_plan-requires-clause-all c =
    let met = rw c.in-Err-StoreFull.field-0-is at c.in-Err-StoreFull.ensures.full in
    held_all c.args.log.now.stripes c.plan_call.new.log.stripes c.args.client c.args.call.now met.keeps.holders c.requires.all

pub free_and_plan-requires-clause-within : goal.free_and_plan-requires-clause-within
free_and_plan-requires-clause-within c =
    let met = rw c.in-Err-StoreFull.field-0-is at c.in-Err-StoreFull.ensures.full in
    met_within c.plan_laws.ensures.plans c.args.log.now c.args.client c.args.call.now c.in-Err-StoreFull.stripe c.plan_call.new.log c.requires.log met

pub free_and_plan-requires-clause-served : goal.free_and_plan-requires-clause-served
free_and_plan-requires-clause-served c = λ mid more.
    let met = rw c.in-Err-StoreFull.field-0-is at c.in-Err-StoreFull.ensures.full in
    c.requires.served mid
    (stepped_both c.args.stays.now c.args.log.now c.plan_call.new.log mid
    (met_stepped c.plan_laws.ensures.plans c.args.log.now c.args.client c.args.call.now c.in-Err-StoreFull.stripe c.plan_call.new.log c.requires.log met c.args.stays.now) more)

pub plan_call-requires-clause-served : goal.plan_call-requires-clause-served
plan_call-requires-clause-served c = c.requires.served c.args.log.now (stepped_none c.args.stays.now c.args.log.now c.requires.log)

pub returns-in-Err-StoreFull : goal.returns-in-Err-StoreFull
returns-in-Err-StoreFull c =
    let met = rw c.in-Err-StoreFull.field-0-is at c.in-Err-StoreFull.ensures.full in
    ok_then c.free_and_plan.result
    (λ ended. Meets c.in-Err-StoreFull.stripe c.plan_call.new.log c.plan_call.new.desk met
    (keeps_staged c.args.desk.now c.plan_call.new.desk c.plan_call.ensures.same c.plan_call.ensures.right) ended)
    c.free_and_plan.ensures

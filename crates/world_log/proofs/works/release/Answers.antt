use Rattle.std.proofs.Common.{◌∙◌, ap, refl}
use Rattle.std.specs.Arc.{arc_value}
use Rattle.world_log.specs.Places.{Receipt, with_shown}
use Rattle.world_log.proofs.CountSteps.{released_agrees, released_alike, released_does}
use Rattle.world_log.proofs.works.release.Goals as goal

pub returns-clause-does : goal.returns-clause-does
returns-clause-does c =
    released_does c.args.log.now c.free_place.new.self c.args.queues.now (record c.args.queues.now { drained = c.pop_front.new.self }) _ c.requires.agrees c.in-Some.ensures.items refl refl
    c.free_place.ensures.freed (arc_value c.args.page) c.args.device.now c.show.new.self
    (c.show.ensures ∙ ap (λ (r : Receipt). with_shown c.args.device.now r.place (arc_value c.args.page)) c.receipt.view_is)

pub returns-clause-agrees : goal.returns-clause-agrees
returns-clause-agrees c =
    released_agrees c.args.log.now c.free_place.new.self c.args.queues.now (record c.args.queues.now { drained = c.pop_front.new.self }) _ c.requires.agrees c.in-Some.ensures.items refl refl
    c.free_place.ensures.freed

pub returns-clause-alike : goal.returns-clause-alike
returns-clause-alike c =
    released_alike c.args.log.now c.free_place.new.self c.args.queues.now (record c.args.queues.now { drained = c.pop_front.new.self }) _ c.requires.agrees c.in-Some.ensures.items refl refl
    c.free_place.ensures.freed

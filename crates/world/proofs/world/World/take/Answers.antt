use Rattle.world.proofs.Moving.{held_endable, held_log, held_more, held_planned, held_taken}
use Rattle.world.proofs.Worlds.{ok_then}
use Rattle.world.proofs.world.World.take.Goals as goal

pub next_stripe-requires-clause-log : goal.next_stripe-requires-clause-log
next_stripe-requires-clause-log c = held_log c.args.self.now c.hold.new.self c.args.client c.args.stripe c.requires.world.log c.hold.ensures.held

pub returns-then-is_some-clause-handled : goal.returns-then-is_some-clause-handled
returns-then-is_some-clause-handled c =
    held_more c.args.self.now c.hold.new.self c.args.client c.args.stripe c.next_stripe.result c.is_some.result c.requires.world c.hold.ensures.held c.requires.enabled
    c.next_stripe.ensures.next c.is_some.ensures c.if-is_some.true

pub returns-then-is_some-clause-endable : goal.returns-then-is_some-clause-endable
returns-then-is_some-clause-endable c = held_endable c.args.self.now c.hold.new.self c.args.client c.args.stripe c.rests.ensures.endable c.hold.ensures.held

pub plan-requires-clause-taken : goal.plan-requires-clause-taken
plan-requires-clause-taken c = held_taken c.args.self.now c.hold.new.self c.args.client c.args.stripe c.requires.world c.hold.ensures.held c.requires.enabled

pub returns-clause-handled : goal.returns-clause-handled
returns-clause-handled c =
    ok_then c.plan.result
    (held_planned c.args.self.now c.hold.new.self c.plan.new.self c.args.client c.args.stripe c.next_stripe.result c.is_some.result c.requires.world c.hold.ensures.held
    c.requires.enabled c.next_stripe.ensures.next c.is_some.ensures c.if-is_some.false)
    c.plan.ensures.planned

pub returns-clause-endable : goal.returns-clause-endable
returns-clause-endable c = c.plan.ensures.endable (held_endable c.args.self.now c.hold.new.self c.args.client c.args.stripe c.rests.ensures.endable c.hold.ensures.held)

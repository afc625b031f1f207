use Rattle.gates.specs.Passes.{known, stripes_of}
use Rattle.transact.specs.Submits.{stripes_asked}
use Rattle.engine.specs.Calls.{promises_of}
use Rattle.engine.specs.Memory.{get_call}
use Rattle.engine.specs.Passes.{know}
use Rattle.engine.proofs.Later.{answered_waited}
use Rattle.engine.proofs.Hearing.{seats_after, seats_kept}
use Rattle.engine.proofs.get.submit_say.Goals as goal

pub returns-in-Some-clause-answered : goal.returns-in-Some-clause-answered
returns-in-Some-clause-answered g c =
    rw (c.got_of.ensures.answer)
    ((rw (c.stripe_of_key-wanted.ensures.exact, c.stripes.ensures.count, c.new-hashed.ensures) at c.in-Some.ensures.answered) (g.D.Device.failures c.args.device.now))

pub returns-in-Some-clause-said : goal.returns-in-Some-clause-said
returns-in-Some-clause-said g c = rw (c.got_of.ensures.text) c.in-Some.ensures.said

pub returns-in-Ok-clause-answered : goal.returns-in-Ok-clause-answered
returns-in-Ok-clause-answered g c =
    answered_waited (promises_of g.R.Shows.is_steady g.R.Shows.lends (stripes_of c.args.site.now.gates.now)) (stripes_asked (stripes_of c.args.site.now.gates.now) (get_call c.args.key.now)) (get_call c.args.key.now) _
    (known c.args.pass.now, g.D.Device.failures c.args.device.now) (known c.say_at_once.new.pass, g.D.Device.failures c.args.device.now) (know (known c.run.new.pass) (g.D.Device.failures c.run.new.device))
    ((rw (c.stripe_of_key-wanted.ensures.exact, c.stripes.ensures.count, c.new-hashed.ensures) at c.in_default.ensures.waited) (g.D.Device.failures c.args.device.now))
    (rw (c.stripe_of_key-wanted.ensures.exact, c.stripes.ensures.count, c.new-hashed.ensures) at c.in-Ok.ensures.answered)

pub returns-in-Err-clause-answered : goal.returns-in-Err-clause-answered
returns-in-Err-clause-answered g c =
    answered_waited (promises_of g.R.Shows.is_steady g.R.Shows.lends (stripes_of c.args.site.now.gates.now)) (stripes_asked (stripes_of c.args.site.now.gates.now) (get_call c.args.key.now)) (get_call c.args.key.now) _
    (known c.args.pass.now, g.D.Device.failures c.args.device.now) (known c.say_at_once.new.pass, g.D.Device.failures c.args.device.now) (know (known c.run.new.pass) (g.D.Device.failures c.run.new.device))
    ((rw (c.stripe_of_key-wanted.ensures.exact, c.stripes.ensures.count, c.new-hashed.ensures) at c.in_default.ensures.waited) (g.D.Device.failures c.args.device.now))
    (rw (c.stripe_of_key-wanted.ensures.exact, c.stripes.ensures.count, c.new-hashed.ensures) at c.in-Err.ensures.answered)

pub returns-in-Some-clause-heard : goal.returns-in-Some-clause-heard
returns-in-Some-clause-heard g c = seats_kept (known c.args.pass.now) (known c.say_at_once.new.pass) c.args.hands.now c.in-Some.ensures.heard

pub returns-in-Ok-clause-heard : goal.returns-in-Ok-clause-heard
returns-in-Ok-clause-heard g c =
    seats_after c.stripe_of_key-wanted.result (known c.args.pass.now) (known c.say_at_once.new.pass) (known c.run.new.pass) c.args.hands.now c.run.new.hands
    (c.in_default.ensures.waited 0).told c.run.ensures.heard

pub returns-in-Err-clause-heard : goal.returns-in-Err-clause-heard
returns-in-Err-clause-heard g c =
    seats_after c.stripe_of_key-wanted.result (known c.args.pass.now) (known c.say_at_once.new.pass) (known c.run.new.pass) c.args.hands.now c.run.new.hands
    (c.in_default.ensures.waited 0).told c.run.ensures.heard

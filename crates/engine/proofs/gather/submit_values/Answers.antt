use Rattle.gates.specs.Passes.{known, stripes_of}
use Rattle.transact.specs.Submits.{stripes_asked}
use Rattle.engine.specs.Calls.{promises_of}
use Rattle.engine.specs.Memory.{values_call}
use Rattle.engine.specs.Passes.{know}
use Rattle.engine.proofs.Later.{answered_waited}
use Rattle.engine.proofs.Hearing.{seats_after, seats_kept}
use Rattle.engine.proofs.gather.submit_values.Goals as goal

pub returns-in-Some-clause-answered : goal.returns-in-Some-clause-answered
returns-in-Some-clause-answered g c =
    rw (c.got_all_of.ensures.answer)
    ((rw (c.stripes_of_keys-wanted.ensures.exact, c.stripes.ensures.count) at c.in-Some.ensures.answered) (g.D.Device.failures c.args.device.now))

pub returns-in-Some-clause-said : goal.returns-in-Some-clause-said
returns-in-Some-clause-said g c = rw (c.got_all_of.ensures.text) c.in-Some.ensures.said

pub returns-clause-answered : goal.returns-clause-answered
returns-clause-answered g c =
    answered_waited (promises_of g.R.Shows.is_steady g.R.Shows.lends (stripes_of c.args.site.now.gates.now)) (stripes_asked (stripes_of c.args.site.now.gates.now) (values_call c.args.keys.now)) (values_call c.args.keys.now) _
    (known c.args.pass.now, g.D.Device.failures c.args.device.now) (known c.say_at_once.new.pass, g.D.Device.failures c.args.device.now) (know (known c.run.new.pass) (g.D.Device.failures c.run.new.device))
    ((rw (c.stripes_of_keys-wanted.ensures.exact, c.stripes.ensures.count) at c.in_default.ensures.waited) (g.D.Device.failures c.args.device.now))
    (rw (c.stripes_of_keys-wanted.ensures.exact, c.stripes.ensures.count) at c.run.ensures.answered)

pub returns-in-Some-clause-heard : goal.returns-in-Some-clause-heard
returns-in-Some-clause-heard g c = seats_kept (known c.args.pass.now) (known c.say_at_once.new.pass) c.args.hands.now c.in-Some.ensures.heard

pub returns-clause-heard : goal.returns-clause-heard
returns-clause-heard g c =
    seats_after c.stripes_of_keys-wanted.result (known c.args.pass.now) (known c.say_at_once.new.pass) (known c.run.new.pass) c.args.hands.now c.run.new.hands
    (c.in_default.ensures.waited 0).told c.run.ensures.heard

use Rattle.gates.specs.Passes.{known, stripes_of}
use Rattle.transact.specs.Submits.{stripes_asked}
use Rattle.engine.specs.Calls.{promises_of}
use Rattle.engine.specs.Passes.{know}
use Rattle.engine.proofs.Saids.{said_then}
use Rattle.engine.proofs.Later.{answered_waited}
use Rattle.engine.proofs.Hearing.{seats_after, seats_kept}
use Rattle.engine.proofs.exec.submit_saying.Goals as goal

pub returns-in-Some-clause-answered : goal.returns-in-Some-clause-answered
returns-in-Some-clause-answered g c = rw (c.came_of.ensures.answer) (c.in-Some.ensures.answered (g.D.Device.failures c.args.device.now))

pub returns-in-Some-clause-said : goal.returns-in-Some-clause-said
returns-in-Some-clause-said g c = rw (c.came_of.ensures.text) c.in-Some.ensures.said

pub returns-in-Some-clause-heard : goal.returns-in-Some-clause-heard
returns-in-Some-clause-heard g c = seats_kept (known c.args.pass.now) (known c.say_call.new.pass) c.args.hands.now c.in-Some.ensures.heard

pub returns-in-Some-clause-gets : goal.returns-in-Some-clause-gets
returns-in-Some-clause-gets g c = said_then c.came_of.result _ c.in-Some.ensures.gets

pub returns-in-None-clause-answered : goal.returns-in-None-clause-answered
returns-in-None-clause-answered g c =
    answered_waited (promises_of g.R.Shows.is_steady g.R.Shows.lends (stripes_of c.args.site.now.gates.now)) (stripes_asked (stripes_of c.args.site.now.gates.now) c.args.call) c.args.call _
    (known c.args.pass.now, g.D.Device.failures c.args.device.now) (known c.say_call.new.pass, g.D.Device.failures c.args.device.now) (know (known c.submit.new.pass) (g.D.Device.failures c.submit.new.device))
    (c.in-None.ensures.waited (g.D.Device.failures c.args.device.now)) c.submit.ensures.answered

pub returns-in-None-clause-heard : goal.returns-in-None-clause-heard
returns-in-None-clause-heard g c =
    seats_after (stripes_asked (stripes_of c.args.site.now.gates.now) c.args.call) (known c.args.pass.now) (known c.say_call.new.pass) (known c.submit.new.pass) c.args.hands.now c.submit.new.hands
    (c.in-None.ensures.waited 0).told c.submit.ensures.heard

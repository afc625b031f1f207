use Rattle.gates.specs.Passes.{known, stripes_of}
use Rattle.engine.specs.Calls.{promises_of}
use Rattle.engine.specs.Passes.{know}
use Rattle.engine.proofs.Later.{answered_waited, may_submit_still, waited_both, waited_none}
use Rattle.engine.specs.Visits.{view_of}
use Rattle.engine.proofs.Entering.{heard_nothing}
use Rattle.engine.proofs.Hearing.{heard_after, heard_both}
use Rattle.engine.proofs.rounds.later_rounds.Goals as goal

pub rounds-init : goal.rounds-init
rounds-init g c = record {
  rests = c.requires.may.rests;
  visit = c.requires.visit;
  heard = heard_nothing (view_of c.args.visit.now);
  waited = waited_none c.args.asking.now.wanted.now (known c.args.pass.now, g.D.Device.failures c.args.device.now);
}

pub later_round-requires-clause-may : goal.later_round-requires-clause-may
later_round-requires-clause-may g c =
    may_submit_still g.R.Shows.is_steady c.args.site.now.gates.now (g.E.Enters.call_of c.args.asking.now.call.now) c.args.pass.now c.rounds.pass _ _ c.args.asking.now.wanted.now c.requires.may
    c.rounds.invariant.rests c.rounds.invariant.waited

pub returns-in-Some-clause-answered : goal.returns-in-Some-clause-answered
returns-in-Some-clause-answered g c =
    answered_waited (promises_of g.R.Shows.is_steady g.R.Shows.lends (stripes_of c.args.site.now.gates.now)) c.args.asking.now.wanted.now (g.E.Enters.call_of c.args.asking.now.call.now) (g.E.Enters.says c.in-Some.answer)
    (known c.args.pass.now, g.D.Device.failures c.args.device.now) (known c.rounds.pass, g.D.Device.failures c.rounds.device) (know (known c.later_round.new.pass) (g.D.Device.failures c.later_round.new.device))
    c.rounds.invariant.waited c.in-Some.ensures.answered

pub rounds-preserved : goal.rounds-preserved
rounds-preserved g c =
    record {
      rests = c.later_round.ensures.rests;
      visit = c.later_round.ensures.visit;
      heard = heard_both (view_of c.args.visit.now) (view_of c.rounds.visit) (view_of c.later_round.new.visit) c.rounds.invariant.heard c.later_round.ensures.heard;
      waited = waited_both c.args.asking.now.wanted.now (known c.args.pass.now, g.D.Device.failures c.args.device.now) (known c.rounds.pass, g.D.Device.failures c.rounds.device)
          (known c.later_round.new.pass, g.D.Device.failures c.later_round.new.device) c.rounds.invariant.waited c.in_default.ensures.waited;
    }

pub returns-in-Some-clause-heard : goal.returns-in-Some-clause-heard
returns-in-Some-clause-heard g c =
    heard_after c.args.asking.now.wanted.now (known c.args.pass.now) (known c.rounds.pass) (known c.later_round.new.pass) (view_of c.args.visit.now) (view_of c.rounds.visit) (view_of c.later_round.new.visit)
    c.rounds.invariant.waited.told c.rounds.invariant.heard c.in-Some.ensures.told

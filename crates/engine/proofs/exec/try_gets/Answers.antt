use Rattle.gates.specs.Helds.{held_stripes}
use Rattle.engine.proofs.Saids.{spoke_answered, spoke_back, spoke_heard, spoke_kept, spoke_none, spoke_some}
use Rattle.engine.proofs.exec.try_gets.Goals as goal

pub returns-clause-back : goal.returns-clause-back
returns-clause-back g c =
    rw c.spoke.ensures
    (spoke_back g.R.Shows.is_steady g.R.Shows.lends (held_stripes c.args.held.now) c.args.call.now c.args.held.now c.enter_gets-entered.new.held c.enter_gets-entered.result 0 (c.enter_gets-entered.ensures.entered 0) c.enter_gets-entered.ensures.back)

pub returns-clause-answered : goal.returns-clause-answered
returns-clause-answered g c = λ failures.
    rw c.spoke.ensures
    (spoke_answered g.R.Shows.is_steady g.R.Shows.lends (held_stripes c.args.held.now) c.args.call.now c.args.held.now c.enter_gets-entered.new.held c.enter_gets-entered.result failures (c.enter_gets-entered.ensures.entered failures))

pub returns-clause-heard : goal.returns-clause-heard
returns-clause-heard g c = λ view. rw c.spoke.ensures (spoke_heard c.enter_gets-entered.result view (c.enter_gets-entered.ensures.heard view))

pub returns-clause-untold : goal.returns-clause-untold
returns-clause-untold g c =
    rw c.spoke.ensures
    (spoke_kept g.R.Shows.is_steady g.R.Shows.lends (held_stripes c.args.held.now) c.args.call.now c.args.held.now c.enter_gets-entered.new.held c.enter_gets-entered.result c.enter_gets-entered.ensures.untold)

pub returns-clause-said : goal.returns-clause-said
returns-clause-said g c = rw c.spoke.ensures (spoke_some c.enter_gets-entered.result _ c.enter_gets-entered.ensures.said)

pub returns-clause-unsaid : goal.returns-clause-unsaid
returns-clause-unsaid g c = rw c.spoke.ensures (spoke_none c.enter_gets-entered.result _ c.enter_gets-entered.ensures.unsaid)

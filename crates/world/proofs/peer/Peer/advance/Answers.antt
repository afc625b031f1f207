use Rattle.world.proofs.PeerSteps.{fewer, says_on, still_serves, stops}
use Rattle.world.proofs.peer.Peer.advance.Goals as goal

pub loop-smaller : goal.loop-smaller
loop-smaller c =
    let step = rw c.if-branch.true at c.in_ok-step.ensures.steps in
    fewer _ _ step

pub loop-preserved : goal.loop-preserved
loop-preserved c =
    let step = rw c.if-branch.true at c.in_ok-step.ensures.steps in
    record {
      goes_on = λ new goes. c.loop.invariant.goes_on new (says_on _ _ new step goes);
      serving = still_serves _ _ step;
      steady = c.in_ok-step.ensures.steady c.if-branch.true;
    }

pub returns : goal.returns
returns c =
    let step = rw c.if-branch.false at c.in_ok-step.ensures.steps in
    record {
      advances = c.loop.invariant.goes_on _ (stops _ _ step);
      endable = c.in_ok-step.ensures.endable;
    }

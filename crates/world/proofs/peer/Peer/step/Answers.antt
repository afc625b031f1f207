use Rattle.std.proofs.Common.{rules, sym, ap, ◌∙◌}
use Rattle.world_model.specs.States.{ClientState}
use Rattle.world.proofs.PeerSteps.{waits, finishes, quits, fails, opens, steady_said}
use Rattle.world.proofs.peer.Peer.step.Goals as goal

pub returns-then-self-clause-steps : goal.returns-then-self-clause-steps
returns-then-self-clause-steps c =
    finishes _ _ _ c.in-Input.ensures (ap (λ (n : ClientState). n.closed) (sym c.self.view_is) ∙ c.if-self.true) c.leave.ensures

pub returns-else-self-clause-steps : goal.returns-else-self-clause-steps
returns-else-self-clause-steps c =
    waits _ _ c.in-Input.ensures (ap (λ (n : ClientState). n.closed) (sym c.self.view_is) ∙ c.if-self.false)

pub returns-in_ok-tell-in-Says-clause-steady : goal.returns-in_ok-tell-in-Says-clause-steady
returns-in_ok-tell-in-Says-clause-steady c = λ on.
    steady_said _ _ _ _ c.says.ensures c.requires.steady c.in-Says.ensures c.in_ok-tell-in-Says.ensures.said

pub returns-in-Calls-clause-steps : goal.returns-in-Calls-clause-steps
returns-in-Calls-clause-steps c = opens _ _ _ _ c.in-Calls.ensures c.wait_for.ensures

pub returns-in_ok-tell-in-Malformed-clause-steps : goal.returns-in_ok-tell-in-Malformed-clause-steps
returns-in_ok-tell-in-Malformed-clause-steps c =
    fails _ _ _ _ _ _ c.in-Malformed.ensures c.line.ensures c.in_ok-tell-in-Malformed.ensures.said c.leave-in-Malformed.ensures

pub returns-in-Closed-clause-steps : goal.returns-in-Closed-clause-steps
returns-in-Closed-clause-steps c = quits _ _ _ c.in-Closed.ensures c.leave-in-Closed.ensures

pub returns-in_ok-tell-in-Says-clause-steps : goal.returns-in_ok-tell-in-Says-clause-steps
returns-in_ok-tell-in-Says-clause-steps c = search rules

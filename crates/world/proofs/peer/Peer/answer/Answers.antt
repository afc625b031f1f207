use Rattle.world.proofs.PeerSteps.{has_answered, steady_answered}
use Rattle.world.proofs.peer.Peer.answer.Goals as goal

pub returns-in-Ok-clause-answered : goal.returns-in-Ok-clause-answered
returns-in-Ok-clause-answered c = has_answered _ _ _ _ _ _ _ _ c.requires.steady c.resume-call.ensures c.in-Ok.ensures.concluded

pub returns-in-Ok-clause-steady : goal.returns-in-Ok-clause-steady
returns-in-Ok-clause-steady c =
    steady_answered _ _ _ _ _ _ _ _ c.is_done.ensures c.requires.steady c.resume-call.ensures c.in-Ok.ensures.concluded

use Rattle.world.proofs.PeerSteps.{on_ok, steady_forgotten}
use Rattle.world.proofs.peer.Peer.forget.Goals as goal

pub returns-clause-steady : goal.returns-clause-steady
returns-clause-steady c =
    on_ok c.tell.result
    (steady_forgotten _ _ _ _ _ _ _ c.is_forgotten.ensures c.requires.steady c.requires.forgetting c.resume-call.ensures c.take_watches.ensures.none)
    c.tell.ensures.said

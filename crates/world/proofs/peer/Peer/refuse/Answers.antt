use Rattle.world.proofs.PeerSteps.{has_been_refused, on_ok, steady_refused}
use Rattle.world.proofs.peer.Peer.refuse.Goals as goal

pub returns-clause-refused : goal.returns-clause-refused
returns-clause-refused c =
    on_ok c.tell.result (has_been_refused _ _ _ _ _ _ c.resume-call.ensures c.give_up.ensures) c.tell.ensures.said

pub returns-clause-steady : goal.returns-clause-steady
returns-clause-steady c =
    on_ok c.tell.result
    (steady_refused _ _ _ _ _ _ c.is_undone.ensures c.requires.steady c.resume-call.ensures c.give_up.ensures)
    c.tell.ensures.said

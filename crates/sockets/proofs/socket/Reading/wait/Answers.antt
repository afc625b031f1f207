use Rattle.std.proofs.Common.{sym, ◌∙◌, rules}
use Rattle.sockets.proofs.Asked.{waited}
use Rattle.sockets.proofs.socket.Reading.wait.Goals as goal

pub returns-clause-calls : goal.returns-clause-calls
returns-clause-calls g c =
    waited _ _ _ _ _ _ _ (sym c.take.ensures.value ∙ c.in_default.is) (search rules) c.set_waiting.ensures.calls c.read.ensures.calls

use Rattle.std.proofs.Common.{subst}
use Rattle.words.specs.Session.{Turn}
use Rattle.session.specs.declared.modes.Session.{Session}
use Rattle.session.specs.declared.modes.Queueing.{Queueing}
use Rattle.session.specs.Steps.{Gives, IsLeft}
use Rattle.session.proofs.queueing.Session+Queueing.step_of.Goals as goal

pub returns-in-Leaves : goal.returns-in-Leaves
returns-in-Leaves c =
    subst (λ (s : Session Queueing). (t : Turn) → IsLeft t s.mode.queue c.in-Leaves.leaving → Gives t s.watching c.leave.result)
    c.in-Leaves.ensures.1 c.leave.ensures _ c.in-Leaves.ensures.0

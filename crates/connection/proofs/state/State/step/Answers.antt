use Rattle.std.proofs.Common.{rules, ◌≡◌, sym, ap, ◌∙◌, subst}
use Rattle.session.specs.declared.modes.Session.{Session}
use Rattle.session.specs.declared.modes.Queueing.{Queueing}
use Rattle.session.specs.Standings.{queueing_of}
use Rattle.session.specs.Steps.{IsLeft}
use Rattle.connection.specs.Clients.{Stage, Ready, stage_of, turn_at, Steps}
use Rattle.connection.proofs.state.State.step.Goals as goal

-- the stage at which a session in a transaction is
abbrev at : Session Queueing → Stage
at session = Ready (queueing_of session)

pub returns-in-Leaves : goal.returns-in-Leaves
returns-in-Leaves c =
    let was : stage_of c.args.self.now ≡ at c.in-Ready-Queueing.session =
    Prim.search (rules, c.in-Ready-Queueing.is, c.in-Ready-Queueing.field-0-is) in
    let leaves : IsLeft (turn_at (at c.take.new.self) c.args.words.now) c.take.new.self.mode.queue c.in-Leaves.leaving =
    subst (λ (s : Session Queueing). IsLeft (turn_at (at s) c.args.words.now) s.mode.queue c.in-Leaves.leaving)
    (sym c.in-Leaves.ensures.1) c.in-Leaves.ensures.0 in
    subst (λ stage. Steps stage c.args.words.now c.leave.result (stage_of c.leave.new.self)) (ap at c.in-Leaves.ensures.1 ∙ sym was)
    (c.leave.ensures c.args.words.now leaves)

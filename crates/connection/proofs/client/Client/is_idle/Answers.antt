use Rattle.std.proofs.Common.{rules, ◌≡◌, refl}
use Rattle.words.specs.Session.{Idle}
use Rattle.session.specs.Standings.{stands}
use Rattle.connection.specs.Clients.{Ready, stage_of}
use Rattle.connection.proofs.client.Client.is_idle.Goals as goal

pub returns-in-Ready-Idle : goal.returns-in-Ready-Idle
returns-in-Ready-Idle c =
    let stage : stage_of c.self.inside.state ≡ Ready (stands Idle c.in-Ready-Idle.field-0-0.watching) =
    Prim.search (rules, c.in-Ready-Idle.is, c.in-Ready-Idle.field-0-is) in
    (λ is. (c.in-Ready-Idle.field-0-0.watching, rw (← c.self.view_is) stage), λ idle. refl)

use Rattle.std.proofs.Common.{ap}
use Rattle.words.specs.Session.{Run, Watch, Exec}
use Rattle.transact.specs.Calls.{asked_of}
use Rattle.world.proofs.peer.kind_of.Goals as goal

pub returns-in-One : goal.returns-in-One
returns-in-One c = (Run c.in-One.field-0, ap asked_of c.in-One.is)

pub returns-in-Watch : goal.returns-in-Watch
returns-in-Watch c = (Watch c.in-Watch.field-0, ap asked_of c.in-Watch.is)

pub returns-in-Exec : goal.returns-in-Exec
returns-in-Exec c = (Exec c.in-Exec.field-0, ap asked_of c.in-Exec.is)

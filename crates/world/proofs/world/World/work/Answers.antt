use Rattle.std.proofs.Common.{refl}
use Rattle.world_model.specs.declared.event.Event.TheVariants as event
use Rattle.world.proofs.Acting.{ok_told, ok_worked, told_by, turn_of, worked_by, world_of, worked_world}
use Rattle.world.proofs.Worlds.{ok_then}
use Rattle.world.specs.Tables.{rest_of}
use Rattle.world.proofs.world.World.work.Goals as goal

pub returns-in-Copy-clause-turn : goal.returns-in-Copy-clause-turn
returns-in-Copy-clause-turn c =
    ok_then c.copy.result (turn_of c.args.self.now c.copy.new.self (event.Copy c.in-Copy.i) c.args.event.now c.in-Copy.is refl)
    (ok_worked c.copy.result c.args.self.now c.copy.new.self (event.Copy c.in-Copy.i) c.copy.ensures.took c.copy.ensures.log c.copy.ensures.given c.copy.ensures.held)

pub returns-in-Copy-clause-world : goal.returns-in-Copy-clause-world
returns-in-Copy-clause-world c =
    ok_then c.copy.result (λ worked. world_of c.laws.ensures.turns c.args.self.now c.copy.new.self (event.Copy c.in-Copy.i) refl worked c.requires.world)
    (ok_worked c.copy.result c.args.self.now c.copy.new.self (event.Copy c.in-Copy.i) c.copy.ensures.took c.copy.ensures.log c.copy.ensures.given c.copy.ensures.held)

pub returns-in-Write-clause-turn : goal.returns-in-Write-clause-turn
returns-in-Write-clause-turn c =
    ok_then c.write.result (turn_of c.args.self.now c.write.new.self (event.Write c.in-Write.i) c.args.event.now c.in-Write.is refl)
    (ok_worked c.write.result c.args.self.now c.write.new.self (event.Write c.in-Write.i) c.write.ensures.took c.write.ensures.log c.write.ensures.given c.write.ensures.held)

pub returns-in-Write-clause-world : goal.returns-in-Write-clause-world
returns-in-Write-clause-world c =
    ok_then c.write.result (λ worked. world_of c.laws.ensures.turns c.args.self.now c.write.new.self (event.Write c.in-Write.i) refl worked c.requires.world)
    (ok_worked c.write.result c.args.self.now c.write.new.self (event.Write c.in-Write.i) c.write.ensures.took c.write.ensures.log c.write.ensures.given c.write.ensures.held)

pub returns-in-Install-clause-turn : goal.returns-in-Install-clause-turn
returns-in-Install-clause-turn c =
    turn_of c.args.self.now c.install.new.self (event.Install c.in-Install.i) c.args.event.now c.in-Install.is refl
    (worked_by c.args.self.now c.install.new.self (event.Install c.in-Install.i) (c.install.ensures.took (rest_of c.args.self.now)) c.install.ensures.log c.install.ensures.given c.install.ensures.held)

pub returns-in-Install-clause-world : goal.returns-in-Install-clause-world
returns-in-Install-clause-world c =
    world_of c.laws.ensures.turns c.args.self.now c.install.new.self (event.Install c.in-Install.i) refl
    (worked_by c.args.self.now c.install.new.self (event.Install c.in-Install.i) (c.install.ensures.took (rest_of c.args.self.now)) c.install.ensures.log c.install.ensures.given c.install.ensures.held) c.requires.world

pub returns-in-Drop-clause-turn : goal.returns-in-Drop-clause-turn
returns-in-Drop-clause-turn c =
    turn_of c.args.self.now c.evict.new.self (event.Drop c.in-Drop.i) c.args.event.now c.in-Drop.is refl
    (worked_by c.args.self.now c.evict.new.self (event.Drop c.in-Drop.i) (c.evict.ensures.took (rest_of c.args.self.now)) c.evict.ensures.log c.evict.ensures.given c.evict.ensures.held)

pub returns-in-Drop-clause-world : goal.returns-in-Drop-clause-world
returns-in-Drop-clause-world c =
    world_of c.laws.ensures.turns c.args.self.now c.evict.new.self (event.Drop c.in-Drop.i) refl
    (worked_by c.args.self.now c.evict.new.self (event.Drop c.in-Drop.i) (c.evict.ensures.took (rest_of c.args.self.now)) c.evict.ensures.log c.evict.ensures.given c.evict.ensures.held) c.requires.world

pub returns-in-Unlink-clause-world : goal.returns-in-Unlink-clause-world
returns-in-Unlink-clause-world c =
    ok_then c.unlink.result
    (λ worked. worked_world c.laws.ensures.turns c.args.self.now c.unlink.new.self (event.Unlink c.in-Unlink.i) refl c.unlink.ensures.same worked c.requires.world)
    c.unlink.ensures.worked

pub returns-in-Retire-clause-turn : goal.returns-in-Retire-clause-turn
returns-in-Retire-clause-turn c =
    ok_then c.retire.result (turn_of c.args.self.now c.retire.new.self (event.Retire c.in-Retire.i) c.args.event.now c.in-Retire.is refl)
    (ok_worked c.retire.result c.args.self.now c.retire.new.self (event.Retire c.in-Retire.i) c.retire.ensures.took c.retire.ensures.log c.retire.ensures.given c.retire.ensures.held)

pub returns-in-Retire-clause-world : goal.returns-in-Retire-clause-world
returns-in-Retire-clause-world c =
    ok_then c.retire.result (λ worked. world_of c.laws.ensures.turns c.args.self.now c.retire.new.self (event.Retire c.in-Retire.i) refl worked c.requires.world)
    (ok_worked c.retire.result c.args.self.now c.retire.new.self (event.Retire c.in-Retire.i) c.retire.ensures.took c.retire.ensures.log c.retire.ensures.given c.retire.ensures.held)

pub returns-in-Release-clause-turn : goal.returns-in-Release-clause-turn
returns-in-Release-clause-turn c =
    ok_then c.release.result (turn_of c.args.self.now c.release.new.self (event.Release c.in-Release.i c.in-Release.page) c.args.event.now c.in-Release.is refl)
    (ok_worked c.release.result c.args.self.now c.release.new.self (event.Release c.in-Release.i c.in-Release.page) c.release.ensures.took c.release.ensures.log c.release.ensures.given c.release.ensures.held)

pub returns-in-Release-clause-world : goal.returns-in-Release-clause-world
returns-in-Release-clause-world c =
    ok_then c.release.result (λ worked. world_of c.laws.ensures.turns c.args.self.now c.release.new.self (event.Release c.in-Release.i c.in-Release.page) refl worked c.requires.world)
    (ok_worked c.release.result c.args.self.now c.release.new.self (event.Release c.in-Release.i c.in-Release.page) c.release.ensures.took c.release.ensures.log c.release.ensures.given c.release.ensures.held)

pub returns-in-Drain-clause-world : goal.returns-in-Drain-clause-world
returns-in-Drain-clause-world c =
    ok_then c.drain.result
    (λ worked. worked_world c.laws.ensures.turns c.args.self.now c.drain.new.self (event.Drain c.in-Drain.i) refl c.drain.ensures.same worked c.requires.world)
    c.drain.ensures.worked

pub returns-in-Copy-clause-told : goal.returns-in-Copy-clause-told
returns-in-Copy-clause-told c = ok_told c.copy.result c.args.self.now (event.Copy c.in-Copy.i) c.args.event.now c.in-Copy.is refl c.copy.ensures.told

pub returns-in-Write-clause-told : goal.returns-in-Write-clause-told
returns-in-Write-clause-told c = ok_told c.write.result c.args.self.now (event.Write c.in-Write.i) c.args.event.now c.in-Write.is refl c.write.ensures.told

pub returns-in-Retire-clause-told : goal.returns-in-Retire-clause-told
returns-in-Retire-clause-told c = ok_told c.retire.result c.args.self.now (event.Retire c.in-Retire.i) c.args.event.now c.in-Retire.is refl c.retire.ensures.told

pub returns-in-Release-clause-told : goal.returns-in-Release-clause-told
returns-in-Release-clause-told c = ok_told c.release.result c.args.self.now (event.Release c.in-Release.i c.in-Release.page) c.args.event.now c.in-Release.is refl c.release.ensures.told

pub returns-in-Install-clause-told : goal.returns-in-Install-clause-told
returns-in-Install-clause-told c = told_by c.install.result c.args.self.now (event.Install c.in-Install.i) c.args.event.now c.in-Install.is refl c.install.ensures.told

pub returns-in-Drop-clause-told : goal.returns-in-Drop-clause-told
returns-in-Drop-clause-told c = told_by c.evict.result c.args.self.now (event.Drop c.in-Drop.i) c.args.event.now c.in-Drop.is refl c.evict.ensures.told

use Rattle.std.proofs.Common.{sym, subst}
use Rattle.world_model.specs.States.{ClientState}
use Rattle.world.specs.Peers.{IsEndable}
use Rattle.world.proofs.Handling.{handled_close}
use Rattle.world.proofs.Worlds.{endable_set, read_at}
use Rattle.world.proofs.world.World.close.Goals as goal

pub returns-clause-handled : goal.returns-clause-handled
returns-clause-handled c =
    handled_close c.args.self.now c.args.client c.index_mut.result.now c.close.new.self c.requires.world
    (read_at c.args.self.now.members.items c.args.client _ c.index_mut.result.now c.args.self.now.members.ok.0 c.requires.within c.index_mut.ensures.value)
    c.requires.enabled c.close.ensures

pub returns-clause-endable : goal.returns-clause-endable
returns-clause-endable c =
    endable_set c.args.self.now.members.items c.args.client (record c.index_mut.result.now { peer = c.close.new.self }) c.rests.ensures.endable
    (subst (λ (p : ClientState). IsEndable p.phase) (sym c.close.ensures)
    (c.rests.ensures.endable c.args.client c.index_mut.result.now
    (read_at c.args.self.now.members.items c.args.client _ c.index_mut.result.now c.args.self.now.members.ok.0 c.requires.within c.index_mut.ensures.value)))

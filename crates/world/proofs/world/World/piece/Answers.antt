use Rattle.world.proofs.Handling.{handled_piece}
use Rattle.world.proofs.Worlds.{endable_set, ok_then, read_at}
use Rattle.world.proofs.world.World.piece.Goals as goal

pub returns-clause-handled : goal.returns-clause-handled
returns-clause-handled c =
    ok_then c.hear.result
    (λ heard. handled_piece c.args.self.now c.args.client c.index_mut.result.now c.hear.new.self c.args.bytes.now c.requires.world
    (read_at c.args.self.now.members.items c.args.client _ c.index_mut.result.now c.args.self.now.members.ok.0 c.requires.within c.index_mut.ensures.value)
    c.requires.enabled heard)
    c.hear.ensures.heard

pub returns-clause-endable : goal.returns-clause-endable
returns-clause-endable c =
    endable_set c.args.self.now.members.items c.args.client (record c.index_mut.result.now { peer = c.hear.new.self }) c.rests.ensures.endable c.hear.ensures.endable

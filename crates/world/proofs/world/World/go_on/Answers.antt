use Rattle.world.proofs.Handling.{goes_by, gone_on, ready_parts}
use Rattle.world.proofs.Worlds.{endable_set, ok_then, read_at}
use Rattle.world.proofs.world.World.go_on.Goals as goal

pub returns-clause-goes : goal.returns-clause-goes
returns-clause-goes c =
    let one = c.index_mut.result.now in
    let there = read_at c.args.self.now.members.items c.args.client _ one c.args.self.now.members.ok.0 c.requires.within c.index_mut.ensures.value in
    let parts = ready_parts c.args.self.now c.args.client one c.is_ready.result there c.is_ready.ensures c.if-not-is_ready.false in
    ok_then c.advance.result (λ advanced. goes_by c.args.self.now c.args.client one c.advance.new.self there parts.0 parts.1 advanced) c.advance.ensures.advances

pub returns-clause-same : goal.returns-clause-same
returns-clause-same c =
    ok_then c.advance.result
    (λ advanced. gone_on c.args.self.now c.args.client c.index_mut.result.now c.advance.new.self
    (read_at c.args.self.now.members.items c.args.client _ c.index_mut.result.now c.args.self.now.members.ok.0 c.requires.within c.index_mut.ensures.value))
    c.advance.ensures.advances

pub returns-clause-endable : goal.returns-clause-endable
returns-clause-endable c =
    endable_set c.args.self.now.members.items c.args.client (record c.index_mut.result.now { peer = c.advance.new.self }) c.requires.endable c.advance.ensures.endable

use Rattle.world.proofs.Moving.{fetch_few, fetch_standing, handled_fetch}
use Rattle.world.proofs.Worlds.{endable_set, ok_then, read_at}
use Rattle.world.proofs.world.World.fetch.Goals as goal

pub fetch-requires-clause-right : goal.fetch-requires-clause-right
fetch-requires-clause-right c =
    c.requires.world.desks c.args.client c.index_mut.result.now
    (read_at c.args.self.now.members.items c.args.client _ c.index_mut.result.now c.args.self.now.members.ok.0 c.requires.within c.index_mut.ensures.value)

pub fetch-requires-clause-standing : goal.fetch-requires-clause-standing
fetch-requires-clause-standing c =
    fetch_standing c.laws.ensures.turns c.args.self.now c.args.client c.index_mut.result.now c.requires.world
    (read_at c.args.self.now.members.items c.args.client _ c.index_mut.result.now c.args.self.now.members.ok.0 c.requires.within c.index_mut.ensures.value)

pub fetch-requires-clause-few : goal.fetch-requires-clause-few
fetch-requires-clause-few c =
    fetch_few c.args.self.now c.args.client c.index_mut.result.now c.requires.world
    (read_at c.args.self.now.members.items c.args.client _ c.index_mut.result.now c.args.self.now.members.ok.0 c.requires.within c.index_mut.ensures.value)
    c.requires.enabled

pub returns-clause-handled : goal.returns-clause-handled
returns-clause-handled c =
    ok_then c.fetch.result
    (handled_fetch c.args.self.now c.args.client c.index_mut.result.now c.fetch.new.self c.fetch.new.log c.requires.world
    (read_at c.args.self.now.members.items c.args.client _ c.index_mut.result.now c.args.self.now.members.ok.0 c.requires.within c.index_mut.ensures.value)
    c.requires.enabled)
    c.fetch.ensures.fetched

pub returns-clause-endable : goal.returns-clause-endable
returns-clause-endable c =
    endable_set c.args.self.now.members.items c.args.client (record c.index_mut.result.now { desk = c.fetch.new.self }) c.rests.ensures.endable
    (c.rests.ensures.endable c.args.client c.index_mut.result.now
    (read_at c.args.self.now.members.items c.args.client _ c.index_mut.result.now c.args.self.now.members.ok.0 c.requires.within c.index_mut.ensures.value))

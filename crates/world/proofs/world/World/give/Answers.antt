use Rattle.std.proofs.Common.{length, ◌<◌}
use Rattle.world.specs.Tables.{state_of}
use Rattle.world.proofs.Moving.{given_end, given_free}
use Rattle.world.proofs.Worlds.{member_at, read_at}
use Rattle.world.proofs.world.World.give.Goals as goal

pub returns-then-is_done-clause-handled : goal.returns-then-is_done-clause-handled
unfolding state_of
returns-then-is_done-clause-handled c =
    given_end c.args.self.now c.args.client c.args.stripe c.index_mut.result.now c.give.new.self c.end_stay.new.self c.is_done.result c.requires.world
    (read_at c.args.self.now.members.items c.args.client _ c.index_mut.result.now c.args.self.now.members.ok.0 c.requires.within c.index_mut.ensures.value)
    c.requires.enabled c.give.ensures c.is_done.ensures c.if-is_done.true c.end_stay.ensures

pub returns-else-is_done-clause-handled : goal.returns-else-is_done-clause-handled
unfolding state_of
returns-else-is_done-clause-handled c =
    let below : c.args.client < length c.args.self.now.members.items = rw (← c.args.self.now.members.ok.0) c.requires.within in
    let one = member_at c.args.self.now.members.items c.args.client below in
    given_free c.args.self.now c.args.client c.args.stripe one.0 c.give.new.self c.is_done.result c.requires.world one.1
    c.requires.enabled c.give.ensures c.is_done.ensures c.if-is_done.false

use Rattle.std.proofs.Common.{arith}
use Rattle.world.specs.Tables.{state_of}
use Rattle.world.proofs.Finishing.{all_rest, looked_at, still_more}
use Rattle.world.proofs.world.World.next_event.Goals as goal

pub loop-client-preserved : goal.loop-client-preserved
loop-client-preserved c =
    still_more (state_of c.args.self.now) c.loop-client.client c.loop-client.invariant c.in_default.ensures.still

pub returns-clause-rest : goal.returns-clause-rest
returns-clause-rest c =
    all_rest c.laws.ensures.turns (state_of c.args.self.now) c.requires.world.order c.tells.ensures.headline
    (λ d below. c.loop-client.invariant d (looked_at c.args.self.now d c.len-client-end.result c.loop-client.client (omega (arith, c.len-client-end.ensures)) c.loop-client-test.false below))

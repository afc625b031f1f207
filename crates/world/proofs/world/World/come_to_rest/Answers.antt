use Rattle.world.specs.Tables.{state_of}
use Rattle.world.proofs.Finishing.{moved_more}
use Rattle.world.proofs.world.World.come_to_rest.Goals as goal

pub loop-event-preserved : goal.loop-event-preserved
loop-event-preserved c = record {
  world = c.in_ok-follow.ensures.world;
  so =
      moved_more (state_of c.args.self.now) (state_of c.loop-event.self) c.in-Some.event (state_of c.follow.new.self) c.loop-event.invariant.so
      c.in-Some.ensures.of_call c.in_ok-follow.ensures.turn;
}

use Rattle.hybrid.specs.Reading.{unread}
use Rattle.hybrid.specs.Staging.{AreRight}
use Rattle.world_log.specs.Cleaning.{AreServed}
use Rattle.world_log.specs.Places.{SamePlaces}
use Rattle.world_log.proofs.cleaning.weigh.Given as goal

abbrev pub invariant-loop-weight : goal.invariant-loop-weight
invariant-loop-weight l = record {
  right : AreRight l.staged;
  served : AreServed l.stripe l.device;
  places : SamePlaces l.fn.device l.device;
}

abbrev pub decreases-loop-weight : goal.decreases-loop-weight
decreases-loop-weight l = unread l.stripe l.staged

use Rattle.std.proofs.Common.{◌≡◌}
use Rattle.hybrid.specs.Reading.{unread}
use Rattle.hybrid.specs.Staging.{AreRight}
use Rattle.world_log.specs.Cleaning.{AreServed}
use Rattle.world_log.specs.Places.{SamePlaces}
use Rattle.world_log.proofs.cleaning.clean.Given as goal

abbrev pub invariant-loop-number : goal.invariant-loop-number
invariant-loop-number l = record {
  log : l.log ≡ l.fn.log;
  right : AreRight l.staged;
  served : AreServed l.log.log l.device;
  places : SamePlaces l.fn.device l.device;
}

abbrev pub decreases-loop-number : goal.decreases-loop-number
decreases-loop-number l = unread l.log.log l.staged

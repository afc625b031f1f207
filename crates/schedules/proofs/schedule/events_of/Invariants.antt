use Rattle.std.proofs.Common.{◌≡◌, ◌+◌, ◌*◌, ◌≤◌, length, vec_len}
use Rattle.schedules.specs.Lines.{AreEvents}
use Rattle.schedules.proofs.schedule.events_of.Given as goal

abbrev pub invariant-loop-rest : goal.invariant-loop-rest
invariant-loop-rest l = record {
  are : AreEvents l.limits l.text l.events.items l.rest;
  short : 2 * vec_len l.events + length l.rest ≤ length l.text;
}

abbrev pub decreases-loop-rest : goal.decreases-loop-rest
decreases-loop-rest l = length l.rest

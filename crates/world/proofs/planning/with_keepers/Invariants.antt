use Rattle.std.proofs.Common.{◌≡◌, ◌+◌, length}
use Rattle.plans.specs.Stops as plans
use Rattle.world_log.specs.PlanLaws.{IsColdIn}
use Rattle.world_model.specs.Places.{Each}
use Rattle.world.specs.Planning.{IsReadFor}
use Rattle.world.proofs.planning.with_keepers.Given as goal

abbrev pub invariant-loop-wanted : goal.invariant-loop-wanted
invariant-loop-wanted l = record {
  cold : plans.Each (IsColdIn l.log) l.receipts;
  kept : Each (IsReadFor l.log l.client) l.due.items;
  count : length l.due.items + length l.receipts ≡ length l.fn.receipts;
}

abbrev pub decreases-loop-wanted : goal.decreases-loop-wanted
decreases-loop-wanted l = length l.receipts

use Rattle.std.proofs.Common.{◌≡◌, ◌≤◌, ◌<◌, ◌-◌, ℕ, Some}
use Rattle.hybrid.specs.HybridLog.{receipt_at}
use Rattle.world_log.specs.Beside.{place_kept}
use Rattle.world_log.proofs.lanes.Lane+Shard+WorldReceipt.keeps_away.Given as goal

abbrev pub invariant-loop-log : goal.invariant-loop-log
invariant-loop-log l = record {
  from : l.log.oldest ≤ l.number;
  to : l.number ≤ l.log.resident.oldest;
  none : (n : ℕ) → l.log.oldest ≤ n → n < l.number → place_kept (receipt_at l.log n) ≡ Some l.place → ⊥;
}

abbrev pub decreases-loop-log : goal.decreases-loop-log
decreases-loop-log l = l.log.resident.oldest - l.number

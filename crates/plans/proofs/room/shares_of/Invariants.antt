use Rattle.std.proofs.Common.{◌≡◌, ◌+◌, ◌<◌, ◌≤◌, ℕ, length, slice_index}
use Rattle.words.specs.declared.limits.TheConstants.{WEIGHT_MAX}
use Rattle.words.specs.Store.{weight}
use Rattle.shards.specs.Rooms.{share}
use Rattle.plans.proofs.room.shares_of.Given as goal

abbrev pub invariant-loop-first : goal.invariant-loop-first
invariant-loop-first l = record {
  size : length l.shares ≡ 64;
  light : weight l.left ≤ WEIGHT_MAX;
  sum : (i : ℕ) → i < 64 → slice_index l.shares i + share l.stripes i l.left ≡ share l.stripes i l.writes;
}

abbrev pub decreases-loop-first : goal.decreases-loop-first
decreases-loop-first l = length l.left

use Rattle.std.proofs.Common.{◌≡◌, ◌+◌, ◌<◌, ◌≤◌, ℕ, length, slice_index}
use Rattle.words.specs.declared.limits.TheConstants.{WEIGHT_MAX}
use Rattle.words.specs.Answers.{writes_set}
use Rattle.words.specs.Briefs.{pairs_of}
use Rattle.words.specs.Store.{weight}
use Rattle.shards.specs.Rooms.{share}
use Rattle.plans.proofs.settings.shares_of.Given as goal

abbrev pub invariant-loop-first : goal.invariant-loop-first
invariant-loop-first l = record {
  size : length l.shares ≡ 64;
  light : weight (writes_set (pairs_of l.left)) ≤ WEIGHT_MAX;
  sum : (i : ℕ) → i < 64 → slice_index l.shares i + share l.stripes i (writes_set (pairs_of l.left)) ≡ share l.stripes i (writes_set (pairs_of l.words));
}

abbrev pub decreases-loop-first : goal.decreases-loop-first
decreases-loop-first l = length l.left

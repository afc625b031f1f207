use Rattle.std.proofs.Common.{◌≡◌, ◌+◌, ◌≤◌, ◌++◌, length, drop}
use Rattle.words.specs.Answers.{deletions}
use Rattle.strings.specs.Overlays.{shown}
use Rattle.strings.proofs.writing.delete.Given as goal

abbrev pub invariant-loop-key : goal.invariant-loop-key
invariant-loop-key l = record {
  found : l.overlay.found ≡ l.initial.overlay.found;
  more : length l.initial.overlay.writes ≤ length l.overlay.writes;
  writes : l.overlay.writes ++ deletions (shown l.overlay) (drop l.key-index l.keys) ≡ l.initial.overlay.writes ++ deletions (shown l.initial.overlay) l.keys;
  counts : l.count + length (deletions (shown l.overlay) (drop l.key-index l.keys)) ≡ length (deletions (shown l.initial.overlay) l.keys);
  below : l.count ≤ l.key-index;
}

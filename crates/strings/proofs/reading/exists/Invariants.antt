use Rattle.std.proofs.Common.{◌≡◌, ◌+◌, ◌≤◌, drop}
use Rattle.words.specs.Answers.{count_there}
use Rattle.strings.specs.Overlays.{shown}
use Rattle.strings.proofs.reading.exists.Given as goal

abbrev pub invariant-loop-key : goal.invariant-loop-key
invariant-loop-key l = record {
  counts : l.count + count_there (shown l.overlay) (drop l.key-index l.keys) ≡ count_there (shown l.overlay) l.keys;
  below : l.count ≤ l.key-index;
}

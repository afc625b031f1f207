use Rattle.std.proofs.Common.{◌≡◌, ◌≤◌, ◌++◌, length, drop}
use Rattle.words.specs.Answers.{writes_set}
use Rattle.strings.proofs.writing.write_all.Given as goal

abbrev pub invariant-loop-key : goal.invariant-loop-key
invariant-loop-key l = record {
  found : l.overlay.found ≡ l.initial.overlay.found;
  more : length l.initial.overlay.writes ≤ length l.overlay.writes;
  writes : l.overlay.writes ++ writes_set (drop l.key-index l.settings) ≡ l.initial.overlay.writes ++ writes_set l.settings;
}

use Rattle.std.proofs.Common.{◌≡◌, ◌++◌, drop}
use Rattle.words.specs.Answers.{items_of}
use Rattle.strings.specs.Overlays.{shown}
use Rattle.strings.proofs.reading.get_all.Given as goal

abbrev pub invariant-loop-key : goal.invariant-loop-key
invariant-loop-key l = l.items.items ++ items_of (shown l.overlay) (drop l.key-index l.keys) ≡ items_of (shown l.overlay) l.keys

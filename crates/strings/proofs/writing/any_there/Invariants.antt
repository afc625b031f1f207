use Rattle.std.proofs.Common.{◌≡◌, drop}
use Rattle.words.specs.Answers.{any_there}
use Rattle.strings.specs.Overlays.{shown}
use Rattle.strings.proofs.writing.any_there.Given as goal

abbrev pub invariant-loop-key : goal.invariant-loop-key
invariant-loop-key l = any_there (shown l.overlay) (drop l.key-index l.settings) ≡ any_there (shown l.overlay) l.settings

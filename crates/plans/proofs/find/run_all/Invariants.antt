use Rattle.std.proofs.Common.{◌≡◌, ◌++◌, length}
use Rattle.words.specs.Answers.{answers}
use Rattle.strings.specs.Overlays.{shown}
use Rattle.plans.proofs.find.run_all.Given as goal

abbrev pub invariant-loop-command : goal.invariant-loop-command
invariant-loop-command l = record {
  replies : l.replies.items ++ (answers (shown l.overlay) l.left).0 ≡ l.fn.replies.items ++ (answers (shown l.fn.overlay) l.commands).0;
  writes : l.overlay.writes ++ (answers (shown l.overlay) l.left).1 ≡ l.fn.overlay.writes ++ (answers (shown l.fn.overlay) l.commands).1;
}

abbrev pub decreases-loop-command : goal.decreases-loop-command
decreases-loop-command l = length l.left

use Rattle.watch.specs.Marked.{marks_of}
use Rattle.watch.proofs.Changes.{nothing_said, no_entries}
use Rattle.watch.proofs.Marks.is_empty.Goals as goal

pub returns : goal.returns
unfolding marks_of
returns c = (
  λ is. nothing_said c.args.self.now.keys.entries (c.is_empty.ensures.0 is),
  λ none. c.is_empty.ensures.1 (no_entries c.args.self.now.keys.entries none),
)

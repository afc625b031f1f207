use Rattle.std.proofs.Common.{sym, ap, ◌∙◌, refl}
use Rattle.std.specs.Str.{bytes_eq}
use Rattle.words.specs.Watches.{touched}
use Rattle.watch.specs.Marked.{marks_of}
use Rattle.watch.proofs.Changes.{lent, not_there, touched_not}
use Rattle.watch.proofs.Marks.touch.Goals as goal

pub returns-then-is_empty : goal.returns-then-is_empty
unfolding marks_of
returns-then-is_empty c = λ k s.
    let none = c.is_empty.ensures.0 c.if-is_empty.true k s in
    none ∙ sym (ap (λ mark. touched (bytes_eq c.args.key.now k) mark) none)

pub returns-in-Some : goal.returns-in-Some
unfolding marks_of
returns-in-Some c =
    lent (λ b s mark. touched b mark) (λ s mark. touched_not mark) c.args.self.now.keys (c.get_mut.follows.lender c.touch.new.self) c.args.key.now c.in-Some.watching.now c.touch.new.self
    c.in-Some.ensures.value (c.get_mut.follows.holds c.touch.new.self) c.touch.ensures

pub returns-in_default : goal.returns-in_default
unfolding marks_of
returns-in_default c =
    not_there (λ b s mark. touched b mark) (λ s mark. touched_not mark) (λ s. refl) c.args.self.now.keys c.get_mut.follows.lender-at-none c.args.key.now
    c.in_default.ensures.value c.get_mut.follows.holds-at-none

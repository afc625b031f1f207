use Rattle.std.proofs.Common.{◌&&◌, nat_eq, refl}
use Rattle.watch.specs.Marked.{marks_of, cleared}
use Rattle.watch.proofs.Changes.{lent, not_there, removed, cleared_none}
use Rattle.watch.proofs.Marks.clear_key.Goals as goal

pub returns-in-None : goal.returns-in-None
unfolding marks_of
returns-in-None c =
    not_there (λ b s mark. cleared (b && nat_eq c.args.seat s) mark) (λ s mark. refl) (λ s. cleared_none (nat_eq c.args.seat s))
    c.args.self.now.keys c.get_mut.follows.lender-at-none c.args.key.now c.in-None.ensures.value c.get_mut.follows.holds-at-none

pub returns-then-keep_others : goal.returns-then-keep_others
unfolding marks_of
returns-then-keep_others c =
    lent (λ b s mark. cleared (b && nat_eq c.args.seat s) mark) (λ s mark. refl) c.args.self.now.keys (c.get_mut.follows.lender c.keep_others.new.self)
    c.args.key.now c.in-Some.seats.now c.keep_others.new.self
    c.in-Some.ensures.value (c.get_mut.follows.holds c.keep_others.new.self) (c.keep_others.ensures.kept c.if-keep_others.true)

pub returns : goal.returns
unfolding marks_of
returns c =
    removed c.args.seat c.args.self.now.keys (c.get_mut.follows.lender c.keep_others.new.self) c.remove.new.self
    c.args.key.now c.in-Some.seats.now c.keep_others.new.self
    c.in-Some.ensures.value (c.get_mut.follows.holds c.keep_others.new.self) (c.keep_others.ensures.none c.if-keep_others.false) c.remove.ensures.updates

use Rattle.std.proofs.Common.{◌≡◌, rules, ◌∷◌, None, ap, ◌∙◌}
use Rattle.watch.specs.Marked.{mark_among}
use Rattle.watch.proofs.Changes.{put_last}
use Rattle.watch.proofs.seats.Seats.add.Goals as goal

pub returns-clause-ok : goal.returns-clause-ok
returns-clause-ok c = λ s.
    let marks = c.args.self.now.first ∷ c.args.self.now.others.items in
    let none : mark_among marks c.args.seat ≡ None = search rules in
    ap (λ items. mark_among (c.args.self.now.first ∷ items) s) c.in_ok-push.ensures.items ∙ put_last marks c.args.seat none s

pub returns-then-is_some-clause-ok : goal.returns-then-is_some-clause-ok
returns-then-is_some-clause-ok c = search rules

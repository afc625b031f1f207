use Rattle.std.proofs.Common.{rules, sym, ap, ◌∙◌}
use Rattle.std.proofs.lemmas.Fn.{filter_same}
use Rattle.watch.specs.Marked.{mark_among}
use Rattle.watch.proofs.Changes.{is_of_other, one_kept, one_gone, none_left, taken_apart}
use Rattle.watch.proofs.seats.Seats.keep_others.Goals as goal

pub returns-then-self-seat-clause-kept : goal.returns-then-self-seat-clause-kept
returns-then-self-seat-clause-kept c = λ yes.
    one_kept c.args.seat c.args.self.now.first c.args.self.now.others.items c.retain.new.self.items
    (filter_same _ (is_of_other c.args.seat) _ (λ mark b f k. search rules) _ _ c.retain.ensures.filtered)
    c.if-self-seat.true

pub returns-then-is_empty-clause-none : goal.returns-then-is_empty-clause-none
returns-then-is_empty-clause-none c = λ no s.
    sym (one_gone c.args.seat c.args.self.now.first c.args.self.now.others.items c.retain.new.self.items
    (filter_same _ (is_of_other c.args.seat) _ (λ mark b f k. search rules) _ _ c.retain.ensures.filtered)
    c.if-self-seat.false s)
    ∙ none_left c.retain.new.self.items c.retain.new.self.len c.retain.new.self.ok.0 (sym c.is_empty.ensures ∙ c.if-is_empty.true) s

pub returns-clause-kept : goal.returns-clause-kept
returns-clause-kept c = λ yes s.
    ap (λ marks. mark_among marks s) (taken_apart c.retain.new.self.items c.remove-self.new.self.items c.remove-self.result
    c.retain.new.self.len c.retain.new.self.ok.0 (sym c.is_empty.ensures ∙ c.if-is_empty.false) c.remove-self.ensures.value c.remove-self.ensures.items)
    ∙ one_gone c.args.seat c.args.self.now.first c.args.self.now.others.items c.retain.new.self.items
    (filter_same _ (is_of_other c.args.seat) _ (λ mark b f k. search rules) _ _ c.retain.ensures.filtered)
    c.if-self-seat.false s

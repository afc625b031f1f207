use Rattle.std.proofs.Common.{arith, refl, ◌≡◌, subst, sym, IfOk, IsTrue}
use Rattle.words.specs.Stream.{Whole, front}
use Rattle.resp_read.specs.Pieces.{AreFilled}
use Rattle.resp_read.specs.Unread.{Held, unread}
use Rattle.resp_read.proofs.ReaderLemmas.{front_nothing, given_front, next_front, taken_up_nothing, filled_after, next_takes_off}
use Rattle.resp_read.proofs.reader.Reader.next_into.Goals as goal

pub returns-then-is_empty-clause-none : goal.returns-then-is_empty-clause-none
returns-then-is_empty-clause-none c = λ _. front_nothing c.args.self.now (c.if-is_empty.ensures.none refl)

pub returns-then-is_empty-clause-bounded : goal.returns-then-is_empty-clause-bounded
returns-then-is_empty-clause-bounded c = λ _. rw (c.if-is_empty.ensures.none refl) (omega arith)

pub returns-then-is_empty-clause-takes_up : goal.returns-then-is_empty-clause-takes_up
returns-then-is_empty-clause-takes_up c = λ _. taken_up_nothing c.args.self.now (c.if-is_empty.ensures.none refl) (c.if-is_empty.ensures.between refl).2

pub returns-then-take_whole-clause-whole : goal.returns-then-take_whole-clause-whole
returns-then-take_whole-clause-whole c = λ _. given_front c.args.self.now c.take_whole.new.self c.take_whole.new.words c.if-take_whole.ensures

pub returns-clause-whole : goal.returns-clause-whole
returns-clause-whole c =
    subst (λ (h : Held). IfOk c.next_by_steps.result (λ given. IsTrue given → front (unread h) ≡ Whole (unread c.next_by_steps.new.self))) c.if-take_whole.ensures
    (next_front c.take_whole.new.self c.next_by_steps.new.self c.next_by_steps.new.words c.next_by_steps.result c.next_by_steps.ensures.takes)

pub returns-then-take_whole-clause-filled : goal.returns-then-take_whole-clause-filled
returns-then-take_whole-clause-filled c = filled_after c.args.self.now c.take_whole.new.self c.if-take_whole.ensures.2 c.are_filled.ensures

pub returns-clause-filled : goal.returns-clause-filled
returns-clause-filled c =
    filled_after c.take_whole.new.self c.next_by_steps.new.self (next_takes_off c.take_whole.new.self c.next_by_steps.new.self c.next_by_steps.new.words c.next_by_steps.result c.next_by_steps.ensures.takes)
    (subst (λ (h : Held). AreFilled h.pieces) (sym c.if-take_whole.ensures) c.are_filled.ensures)

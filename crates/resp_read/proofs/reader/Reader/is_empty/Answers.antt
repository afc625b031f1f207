use Rattle.std.proofs.Common.{arith, ◌≡◌, ◌<◌, ◌∙◌, [], length, subst, sym}
use Rattle.std.proofs.lemmas.Bool.{eqb-false, eqb-true}
use Rattle.resp_read.specs.Unread.{Held, kept, unread, IsBetween}
use Rattle.resp_read.proofs.ReaderLemmas.{between_count, held_of, nothing_joined, unread_counted, unread_nothing, unread_pieces}
use Rattle.resp_read.proofs.reader.Reader.is_empty.Goals as goal

pub returns-then-self-eq0-clause-none : goal.returns-then-self-eq0-clause-none
returns-then-self-eq0-clause-none c = λ is.
    let none = between_count c.self.inside.due c.self.inside.size (kept c.self.inside.words) c.self.invariant.0 c.if-self-eq0.true in
    let empty = nothing_joined _ (sym c.held.ensures ∙ eqb-true c.held.result 0 is) in
    subst (λ (h : Held). unread h ≡ []) c.self.view_is (unread_nothing (held_of c.self.inside.due (kept c.self.inside.words) c.self.inside.pieces c.self.inside.lacks_memory) none empty)

pub returns-then-self-eq0-clause-between : goal.returns-then-self-eq0-clause-between
returns-then-self-eq0-clause-between c = λ _.
    let none = between_count c.self.inside.due c.self.inside.size (kept c.self.inside.words) c.self.invariant.0 c.if-self-eq0.true in
    subst IsBetween c.self.view_is (none, c.self.invariant.0.none c.if-self-eq0.true, c.self.invariant.1 c.if-self-eq0.true)

pub returns-then-self-eq0-clause-some : goal.returns-then-self-eq0-clause-some
returns-then-self-eq0-clause-some c = λ is.
    let some = eqb-false c.held.result 0 is in
    subst (λ (h : Held). 0 < length (unread h)) c.self.view_is
    (unread_pieces (held_of c.self.inside.due (kept c.self.inside.words) c.self.inside.pieces c.self.inside.lacks_memory) (omega (arith, some, c.held.ensures)))

pub returns-else-self-eq0-clause-some : goal.returns-else-self-eq0-clause-some
returns-else-self-eq0-clause-some c = λ _.
    subst (λ (h : Held). 0 < length (unread h)) c.self.view_is
    (unread_counted (held_of c.self.inside.due (kept c.self.inside.words) c.self.inside.pieces c.self.inside.lacks_memory) (λ none. c.if-self-eq0.false (omega (arith, none))))

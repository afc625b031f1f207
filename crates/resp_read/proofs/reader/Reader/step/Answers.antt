use Rattle.std.proofs.Common.{◌∙◌, false, refl, ap, sym, subst, arith}
use Rattle.words.specs.Stream.{front, Part, Faulty}
use Rattle.resp_read.specs.Pieces.{joined}
use Rattle.resp_read.specs.Unread.{Held, unread, kept, IsLeftOver}
use Rattle.resp_read.proofs.ReaderLemmas.{begun_front, part_of_word}
use Rattle.resp_read.proofs.reader.Reader.step.Goals as goal

pub returns-in-Part : goal.returns-in-Part
returns-in-Part c = (
  ap (λ (h : Held). front (unread h)) (sym c.self.view_is) ∙ begun_front c.self.inside.due c.self.inside.size (kept c.self.inside.words) c.self.inside.pieces c.self.inside.lacks_memory Part c.self.invariant.0 (omega (arith, c.if-self-eq0.false)) (λ left is. c.in-Part.ensures.tells left),
  refl,
  subst (λ (h : Held). IsLeftOver false h.count h.words (joined h.pieces)) c.self.view_is (part_of_word c.self.inside.due c.self.inside.size (kept c.self.inside.words) c.self.inside.pieces c.self.invariant.0 (omega (arith, c.if-self-eq0.false)) (c.in-Part.ensures.tells 0)),
)

pub returns-in-Faulty : goal.returns-in-Faulty
returns-in-Faulty c = (
  ap (λ (h : Held). front (unread h)) (sym c.self.view_is) ∙ begun_front c.self.inside.due c.self.inside.size (kept c.self.inside.words) c.self.inside.pieces c.self.inside.lacks_memory (Faulty c.in-Faulty.fault) c.self.invariant.0 (omega (arith, c.if-self-eq0.false)) (λ left is. c.in-Faulty.ensures.tells left),
  refl,
  tt,
)

use Rattle.std.proofs.Common.{refl, ◌≡◌, ◌+◌, [], subst, arith, length}
use Rattle.resp_read.specs.declared.reader.Step.TheVariants.{Gives}
use Rattle.resp_read.specs.Taking.{Takes}
use Rattle.resp_read.specs.Unread.{Held, kept}
use Rattle.resp_read.proofs.ReaderLemmas.{held_of}
use Rattle.resp_read.proofs.WholeLemmas.{whole_taken}
use Rattle.resp_read.proofs.reader.Reader.take_whole.Goals as goal

pub returns : goal.returns
returns c =
    let words = kept c.self.inside.words in
    let nothing : kept c.self.inside.words ≡ [] = c.self.invariant.0.none (omega (arith, c.if-self-gt0.false)) in
    let none : c.self.inside.due + length (kept c.self.inside.words) ≡ 0 = rw nothing (omega (arith, c.if-self-gt0.false)) in
    subst (λ (h : Held). Takes h (Gives c.request_in.new.words) (held_of c.self.inside.due words c.skip.new.self c.self.inside.lacks_memory)) c.self.view_is
    (whole_taken (held_of c.self.inside.due words c.self.inside.pieces c.self.inside.lacks_memory) (held_of c.self.inside.due words c.skip.new.self c.self.inside.lacks_memory) c.oldest.result.now c.oldest.ensures.first.0 c.request_in.new.words c.request_in.new.at none none nothing (c.self.invariant.1 (omega (arith, c.if-self-gt0.false))) c.oldest.ensures.first.1 (c.if-not-request_in.ensures refl) c.skip.ensures)

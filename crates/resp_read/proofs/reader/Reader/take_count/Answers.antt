use Rattle.std.proofs.Common.{◌≡◌, ◌≤◌, ◌+◌, ◌∙◌, [], refl, ap, sym, subst, arith, length}
use Rattle.words.specs.Stream.{front}
use Rattle.resp_read.specs.declared.reader.Step.TheVariants.{Goes}
use Rattle.resp_read.specs.Pieces.{joined}
use Rattle.resp_read.specs.Taking.{Takes}
use Rattle.resp_read.specs.Unread.{Held, kept}
use Rattle.resp_read.proofs.ReaderLemmas.{count_taken, unread_between, part_of_count, held_of}
use Rattle.resp_read.proofs.reader.Reader.take_count.Goals as goal

pub returns-in-Number : goal.returns-in-Number
returns-in-Number c =
    let e = c.in-Number.ensures in
    let none : c.self.inside.due + length (kept c.self.inside.words) ≡ 0 = subst (λ (h : Held). h.count ≡ 0) (sym c.self.view_is) c.requires in
    let nothing : kept c.self.inside.words ≡ [] = c.self.invariant.0.none (omega arith) in
    subst (λ (h : Held). Takes h Goes (held_of c.in-Number.value (kept c.self.inside.words) c.skip.new.self c.self.inside.lacks_memory)) c.self.view_is
    (count_taken (held_of c.self.inside.due (kept c.self.inside.words) c.self.inside.pieces c.self.inside.lacks_memory) c.skip.new.self c.in-Number.value c.in-Number.width c.self.inside.lacks_memory none nothing e.0 e.1 c.skip.ensures)

pub returns-in-Part : goal.returns-in-Part
returns-in-Part c =
    (ap front (unread_between c.args.self.now c.requires ∙ ap (λ (h : Held). joined h.pieces) (sym c.self.view_is)) ∙ c.in-Part.ensures.1, refl, part_of_count c.args.self.now c.requires (subst (λ (h : Held). length (joined h.pieces) ≤ 6) c.self.view_is c.in-Part.ensures.0))

pub returns-in-Faulty : goal.returns-in-Faulty
returns-in-Faulty c =
    (ap front (unread_between c.args.self.now c.requires ∙ ap (λ (h : Held). joined h.pieces) (sym c.self.view_is)) ∙ c.in-Faulty.ensures, refl, tt)

use Rattle.std.proofs.Common.{◌≡◌, ◌<◌, ◌∙◌, ◌∷◌, ◌++◌, ◌-◌, [], List, ℕ, false, length, refl, ap, sym, subst, arith}
use Rattle.words.specs.Spelling.{bytes_of}
use Rattle.resp_read.specs.declared.reader.Step.TheVariants.{Goes, Gives}
use Rattle.resp_read.specs.Looks.{HasWord}
use Rattle.resp_read.specs.Pieces.{joined}
use Rattle.resp_read.specs.Taking.{Takes}
use Rattle.resp_read.specs.Unread.{Held, kept}
use Rattle.resp_read.proofs.ReaderLemmas.{IsTaken, due_some, word_is_there, taken_begun, taken_goes, taken_gives, held_of}
use Rattle.resp_read.proofs.reader.Reader.take_word.Goals as goal

pub invariant_of-self-then-self-gt0 : goal.invariant_of-self-then-self-gt0
invariant_of-self-then-self-gt0 c =
    let taken : IsTaken c.self.inside.due c.self.inside.size c.args.start c.args.long (kept c.self.inside.words) c.self.inside.pieces (kept c.keep.new.words) c.skip.new.self =
    record {
      begun = c.self.invariant.0;
      some = due_some c.self.inside.due c.self.inside.size (kept c.self.inside.words) c.self.invariant.0 (subst (λ (h : Held). 0 < h.count) (sym c.self.view_is) c.requires.due);
      there = word_is_there c.self.inside.due c.self.inside.size c.args.start c.args.long (kept c.self.inside.words) c.self.inside.pieces c.self.invariant.0 (subst (λ (h : Held). HasWord (joined h.pieces) (bytes_of h.words) c.args.start c.args.long) (sym c.self.view_is) c.requires.word);
      words_are = c.in_default-keep.ensures.ok ∙ ap (λ (w : List ℕ). kept c.self.inside.words ++ w ∷ []) c.in-Ok.ensures.bytes;
      left_are = c.skip.ensures;
    }
    in
    (taken_begun c.self.inside.due c.self.inside.size c.args.start c.args.long (kept c.self.inside.words) c.self.inside.pieces (kept c.keep.new.words) c.skip.new.self taken c.if-self-gt0.true, λ none. absurd (omega (arith, none, c.if-self-gt0.true)))

pub returns-then-self-gt0 : goal.returns-then-self-gt0
returns-then-self-gt0 c =
    let taken : IsTaken c.self.inside.due c.self.inside.size c.args.start c.args.long (kept c.self.inside.words) c.self.inside.pieces (kept c.keep.new.words) c.skip.new.self =
    record {
      begun = c.self.invariant.0;
      some = due_some c.self.inside.due c.self.inside.size (kept c.self.inside.words) c.self.invariant.0 (subst (λ (h : Held). 0 < h.count) (sym c.self.view_is) c.requires.due);
      there = word_is_there c.self.inside.due c.self.inside.size c.args.start c.args.long (kept c.self.inside.words) c.self.inside.pieces c.self.invariant.0 (subst (λ (h : Held). HasWord (joined h.pieces) (bytes_of h.words) c.args.start c.args.long) (sym c.self.view_is) c.requires.word);
      words_are = c.in_default-keep.ensures.ok ∙ ap (λ (w : List ℕ). kept c.self.inside.words ++ w ∷ []) c.in-Ok.ensures.bytes;
      left_are = c.skip.ensures;
    }
    in
    subst (λ (h : Held). Takes h Goes (held_of (c.self.inside.due - 1) (kept c.keep.new.words) c.skip.new.self c.self.inside.lacks_memory)) c.self.view_is
    (taken_goes c.self.inside.due c.self.inside.size c.args.start c.args.long (kept c.self.inside.words) c.self.inside.pieces (kept c.keep.new.words) c.skip.new.self c.self.inside.lacks_memory taken c.if-self-gt0.true)

pub returns : goal.returns
returns c =
    let taken : IsTaken c.self.inside.due c.self.inside.size c.args.start c.args.long (kept c.self.inside.words) c.self.inside.pieces (kept c.keep.new.words) c.skip.new.self =
    record {
      begun = c.self.invariant.0;
      some = due_some c.self.inside.due c.self.inside.size (kept c.self.inside.words) c.self.invariant.0 (subst (λ (h : Held). 0 < h.count) (sym c.self.view_is) c.requires.due);
      there = word_is_there c.self.inside.due c.self.inside.size c.args.start c.args.long (kept c.self.inside.words) c.self.inside.pieces c.self.invariant.0 (subst (λ (h : Held). HasWord (joined h.pieces) (bytes_of h.words) c.args.start c.args.long) (sym c.self.view_is) c.requires.word);
      words_are = c.in_default-keep.ensures.ok ∙ ap (λ (w : List ℕ). kept c.self.inside.words ++ w ∷ []) c.in-Ok.ensures.bytes;
      left_are = c.skip.ensures;
    }
    in
    let given : kept c.keep.new.words ≡ c.in-Some.words = ap kept (sym c.take.ensures.value ∙ c.in-Some.is) in
    let nothing : kept c.take.new.self ≡ [] = ap kept c.take.ensures.after in
    subst (λ (ws : List (List ℕ)). Takes c.args.self.now (Gives ws) (held_of (c.self.inside.due - 1) (kept c.take.new.self) c.skip.new.self false)) given
    (subst (λ (h : Held). Takes h (Gives (kept c.keep.new.words)) (held_of (c.self.inside.due - 1) (kept c.take.new.self) c.skip.new.self false)) c.self.view_is
    (taken_gives c.self.inside.due c.self.inside.size c.args.start c.args.long (kept c.self.inside.words) c.self.inside.pieces (kept c.keep.new.words) c.skip.new.self c.self.inside.lacks_memory (held_of (c.self.inside.due - 1) (kept c.take.new.self) c.skip.new.self false) taken (omega (arith, c.if-self-gt0.false)) (omega (arith, c.if-self-gt0.false, ap length nothing)) nothing refl refl))

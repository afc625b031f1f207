use Rattle.std.proofs.Common.{◌<◌, ◌≤◌, ◌⊎◌, ◌∙◌, true, refl, ap, sym, subst, length}
use Rattle.words.specs.declared.word.TheConstants.{WORD_INLINE, WORDS_INLINE}
use Rattle.words.specs.Spelling.{bytes_of}
use Rattle.words.specs.Stream.{front, Part, Faulty}
use Rattle.resp_read.specs.Looks.{HasWord}
use Rattle.resp_read.specs.Memory.{NeedsMemory}
use Rattle.resp_read.specs.Pieces.{joined}
use Rattle.resp_read.specs.Unread.{Held, unread, kept, IsLeftOver}
use Rattle.resp_read.proofs.ReaderLemmas.{due_some, word_is_there, refused_whole, refused_front, large_is_left}
use Rattle.resp_read.proofs.reader.Reader.refused.Goals as goal

pub returns-in-Whole : goal.returns-in-Whole
returns-in-Whole c =
    let words = kept c.self.inside.words in
    let pieces = c.self.inside.pieces in
    let some = due_some c.self.inside.due c.self.inside.size words c.self.invariant.0 (subst (λ (h : Held). 0 < h.count) (sym c.self.view_is) c.requires.due) in
    let word = word_is_there c.self.inside.due c.self.inside.size c.args.start c.args.long words pieces c.self.invariant.0 (subst (λ (h : Held). HasWord (joined h.pieces) (bytes_of h.words) c.args.start c.args.long) (sym c.self.view_is) c.requires.word) in
    let large = subst (λ (h : Held). (WORD_INLINE < c.args.long) ⊎ (WORDS_INLINE ≤ length h.words)) (sym c.self.view_is) c.requires.large in
    (subst (λ (h : Held). NeedsMemory (unread h)) c.self.view_is (refused_whole c.self.inside.due c.self.inside.size c.args.start c.args.long words pieces c.self.inside.lacks_memory c.self.invariant.0 some word large c.in-Whole.ensures), refl, subst (λ (h : Held). IsLeftOver true h.count h.words (joined h.pieces)) c.self.view_is (large_is_left c.self.inside.due c.self.inside.size c.args.start c.args.long words pieces some word large))

pub returns-in-Part : goal.returns-in-Part
returns-in-Part c =
    let words = kept c.self.inside.words in
    let pieces = c.self.inside.pieces in
    let some = due_some c.self.inside.due c.self.inside.size words c.self.invariant.0 (subst (λ (h : Held). 0 < h.count) (sym c.self.view_is) c.requires.due) in
    let word = word_is_there c.self.inside.due c.self.inside.size c.args.start c.args.long words pieces c.self.invariant.0 (subst (λ (h : Held). HasWord (joined h.pieces) (bytes_of h.words) c.args.start c.args.long) (sym c.self.view_is) c.requires.word) in
    let large = subst (λ (h : Held). (WORD_INLINE < c.args.long) ⊎ (WORDS_INLINE ≤ length h.words)) (sym c.self.view_is) c.requires.large in
    (ap (λ (h : Held). front (unread h)) (sym c.self.view_is) ∙ refused_front c.self.inside.due c.self.inside.size c.args.start c.args.long words pieces c.self.inside.lacks_memory Part c.self.invariant.0 some word c.in-Part.ensures, refl, subst (λ (h : Held). IsLeftOver true h.count h.words (joined h.pieces)) c.self.view_is (large_is_left c.self.inside.due c.self.inside.size c.args.start c.args.long words pieces some word large))

pub returns-in-Faulty : goal.returns-in-Faulty
returns-in-Faulty c =
    let words = kept c.self.inside.words in
    let pieces = c.self.inside.pieces in
    let some = due_some c.self.inside.due c.self.inside.size words c.self.invariant.0 (subst (λ (h : Held). 0 < h.count) (sym c.self.view_is) c.requires.due) in
    let word = word_is_there c.self.inside.due c.self.inside.size c.args.start c.args.long words pieces c.self.invariant.0 (subst (λ (h : Held). HasWord (joined h.pieces) (bytes_of h.words) c.args.start c.args.long) (sym c.self.view_is) c.requires.word) in
    (ap (λ (h : Held). front (unread h)) (sym c.self.view_is) ∙ refused_front c.self.inside.due c.self.inside.size c.args.start c.args.long words pieces c.self.inside.lacks_memory (Faulty c.in-Faulty.fault) c.self.invariant.0 some word c.in-Faulty.ensures, refl, tt)

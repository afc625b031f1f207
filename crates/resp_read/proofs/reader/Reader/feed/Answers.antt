use Rattle.std.proofs.Common.{rules, ◌≡◌, ◌∙◌, ◌++◌, [], refl, ap, List, ℕ}
use Rattle.resp_read.specs.Unread.{Held, unread, kept}
use Rattle.resp_read.proofs.ReaderLemmas.{on_ok_holds, unread_fed, held_of, no_pieces}
use Rattle.resp_read.proofs.reader.Reader.feed.Goals as goal
use Rattle.resp_read.proofs.reader.Reader.feed.Goals.{in-Ok, in-Err}

pub returns-clause-unread : goal.returns-clause-unread
returns-clause-unread c =
    elim c.match-push.branch [
      | in-Ok w ↦ on_ok_holds c.match-push.result (ap (λ (ps : List (List ℕ)). unread (held_of c.self.inside.due (kept c.self.inside.words) ps c.self.inside.lacks_memory)) w.in-Ok.ensures.ok
          ∙ (unread_fed (held_of c.self.inside.due (kept c.self.inside.words) c.self.inside.pieces c.self.inside.lacks_memory) c.args.piece ∙ ap (λ (h : Held). unread h ++ c.args.piece) c.self.view_is))
      | in-Err w ↦ rw w.result-is tt
    ]

pub returns-clause-returned : goal.returns-clause-returned
returns-clause-returned c = search rules

pub returns-clause-none : goal.returns-clause-none
returns-clause-none c = λ none.
    let held : c.self.inside.pieces ≡ [] = ap (λ (h : Held). h.pieces) c.self.view_is ∙ no_pieces c.args.self.now c.are_filled.ensures none in
    elim c.match-push.branch [ in-Ok w ↦ rw w.result-is refl | in-Err w ↦ absurd (cc (rw w.in-Err.is at (c.push.ensures.first held))) ]

use Rattle.std.proofs.Common.{◌≡◌, ◌+◌, ◌≤◌, inl, inr, Option, sym, subst, arith}
use Rattle.std.specs.Prelude.{MatchOption}
use Rattle.std.proofs.lemmas.Bool.{cases_lt, false≢true}
use Rattle.records.specs.Page.{SameWithin}
use Rattle.records.specs.Records.{HasPiece, size_of}
use Rattle.hybrid.specs.declared.piece.Piece.{Piece}
use Rattle.hybrid.proofs.staged.record_in.Goals as goal

pub returns-in-Ok-clause-found : goal.returns-in-Ok-clause-found
returns-in-Ok-clause-found c = λ s page piece right laid r listed.
    let p = c.args.piece in
    let piece_is = piece in
    let read = subst (λ (o : Option Piece). MatchOption o (s.page ≡ s.kept.shown) (λ q. SameWithin q.from q.to s.page s.kept.shown)) piece_is right in
    let has : HasPiece c.args.offset p.to c.args.page.now r = record {
      whole = s.kept.shown;
      laid_out = laid;
      listed = listed;
      same = c.parts_of_the_same_bytes_are_the_same.ensures p.from p.to c.args.offset p.to c.args.page.now s.kept.shown (subst (λ l. SameWithin p.from p.to l s.kept.shown) page read) c.if-offset-piece.false (omega arith);
      in_page = p.in_page;
    } in
    let fits : c.args.offset + size_of r ≤ p.to = elim (cases_lt p.to (c.args.offset + size_of r)) [
      | inl past ↦ absurd (false≢true (c.in-Ok.ensures.refused r has past))
      | inr within ↦ omega (arith, within)
    ] in
    (c.in-Ok.ensures.found r has fits, subst (λ (o : Option Piece). MatchOption o (Unit {0}) (λ q. (q.from ≤ c.args.offset) × (c.args.offset + size_of r ≤ q.to))) (sym piece_is) (c.if-offset-piece.false, fits))

pub returns-in-Err-clause-unread : goal.returns-in-Err-clause-unread
returns-in-Err-clause-unread c = λ s page piece right laid r listed bytes.
    let p = c.args.piece in
    let piece_is = piece in
    let read = subst (λ (o : Option Piece). MatchOption o (s.page ≡ s.kept.shown) (λ q. SameWithin q.from q.to s.page s.kept.shown)) piece_is right in
    let has : HasPiece c.args.offset p.to c.args.page.now r = record {
      whole = s.kept.shown;
      laid_out = laid;
      listed = listed;
      same = c.parts_of_the_same_bytes_are_the_same.ensures p.from p.to c.args.offset p.to c.args.page.now s.kept.shown (subst (λ l. SameWithin p.from p.to l s.kept.shown) page read) c.if-offset-piece.false (omega arith);
      in_page = p.in_page;
    } in
    let held = subst (λ (o : Option Piece). MatchOption o (Unit {0}) (λ q. (q.from ≤ c.args.offset) × (c.args.offset + size_of r ≤ q.to))) piece_is bytes in
    c.in-Err.ensures.found r has held.1

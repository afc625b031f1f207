use Rattle.std.proofs.Common.{List, ◌≡◌, ◌∙◌, None, inl, inr, map, ap, refl, sym, subst, arith}
use Rattle.std.specs.List.{Contains}
use Rattle.std.proofs.lemmas.Bool.{false≢true}
use Rattle.records.specs.Records.{IsLaidOut, records_of, size_of}
use Rattle.hybrid.specs.declared.staged.ReadBy.{ReadBy}
use Rattle.hybrid.specs.Staging.{HasBytes, StagedPage}
use Rattle.hybrid.specs.Reading.{staged_by}
use Rattle.hybrid.proofs.Finding.{some-so}
use Rattle.hybrid.proofs.Staging.{entry-right, entry-there, more-missed, all-missed, if-none, none-has, none-whole}
use Rattle.hybrid.proofs.staged.Staged.record.Goals.{then-same+else-is_some, else-same}
use Rattle.hybrid.proofs.staged.Staged.record.Goals as goal

pub loop-read-init : goal.loop-read-init
loop-read-init g c = (λ k d below same. absurd (omega (arith, below)), λ honest right laid r listed k d below same. absurd (omega (arith, below)))

pub returns-then-is_some-clause-found : goal.returns-then-is_some-clause-found
returns-then-is_some-clause-found g c = λ honest right laid r listed.
    let f : ReadBy g.row.R.Denot → StagedPage = λ r. staged_by (record { identity = g.R.Shows.identity r.receipt; shown = g.R.Shows.shown r.receipt }) r.page in
    let items = c.deref-read-items.result.now in
    let is = ap (λ (l : List (ReadBy g.row.R.Denot)). map f l) c.deref-read-items.ensures.value ∙ c.self.view_is in
    let item = c.read-item.result in
    let same = c.same.ensures.only_copies honest c.if-same.true in
    let shown_is = g.met.R.Shows.one_page item.receipt c.args.receipt.now same in
    let is_right = entry-right f items c.args.self.now is c.loop-read.read-index item c.loop-read-test.true c.read-item.is right in
    let there = entry-there f items c.args.self.now is c.loop-read.read-index item c.loop-read-test.true c.read-item.is in
    some-so c.record-found.result _ _ (λ found has. (has.0, inr (record { one = f item; there = there; same = same; has = has.1 })))
    (c.record-found.ensures.found (f item) refl refl is_right (subst IsLaidOut (sym shown_is) laid) r (subst (λ l. Contains (records_of l) (c.args.offset, r)) (sym shown_is) listed))

pub loop-read-preserved : goal.loop-read-preserved
loop-read-preserved g c =
    let f : ReadBy g.row.R.Denot → StagedPage = λ r. staged_by (record { identity = g.R.Shows.identity r.receipt; shown = g.R.Shows.shown r.receipt }) r.page in
    let items = c.deref-read-items.result.now in
    let is = ap (λ (l : List (ReadBy g.row.R.Denot)). map f l) c.deref-read-items.ensures.value ∙ c.self.view_is in
    let item = c.read-item.result in
    elim c.if-same.branch [
      | then-same+else-is_some w ↦ (
        more-missed f items c.args.self.now is (λ s. (s.kept.identity ≡ g.R.Shows.identity c.args.receipt.now) × (s.piece ≡ None)) c.loop-read.read-index item c.loop-read-test.true c.read-item.is
            (λ same. if-none w.record-found.result _ (sym w.is_some.ensures ∙ w.if-is_some.false) w.record-found.ensures.whole same.1) c.loop-read.invariant.0,
        λ honest right laid r listed.
            let same = c.same.ensures.only_copies honest w.if-same.true in
            let shown_is = g.met.R.Shows.one_page item.receipt c.args.receipt.now same in
            let is_right = entry-right f items c.args.self.now is c.loop-read.read-index item c.loop-read-test.true c.read-item.is right in
            more-missed f items c.args.self.now is (λ s. (s.kept.identity ≡ g.R.Shows.identity c.args.receipt.now) × HasBytes s c.args.offset (size_of r)) c.loop-read.read-index item c.loop-read-test.true c.read-item.is
            (λ has. if-none w.record-found.result _ (sym w.is_some.ensures ∙ w.if-is_some.false)
            (w.record-found.ensures.unread (f item) refl refl is_right (subst IsLaidOut (sym shown_is) laid) r (subst (λ l. Contains (records_of l) (c.args.offset, r)) (sym shown_is) listed)) has.1)
            (c.loop-read.invariant.1 honest right laid r listed),
      )
      | else-same w ↦ (
        more-missed f items c.args.self.now is (λ s. (s.kept.identity ≡ g.R.Shows.identity c.args.receipt.now) × (s.piece ≡ None)) c.loop-read.read-index item c.loop-read-test.true c.read-item.is
            (λ same. let bad = c.same.ensures.copies same.0 in absurd (cc (w.if-same.false, bad))) c.loop-read.invariant.0,
        λ honest right laid r listed.
            more-missed f items c.args.self.now is (λ s. (s.kept.identity ≡ g.R.Shows.identity c.args.receipt.now) × HasBytes s c.args.offset (size_of r)) c.loop-read.read-index item c.loop-read-test.true c.read-item.is
            (λ same. let bad = c.same.ensures.copies same.0 in absurd (cc (w.if-same.false, bad))) (c.loop-read.invariant.1 honest right laid r listed),
      )
    ]

pub returns-clause-unread : goal.returns-clause-unread
returns-clause-unread g c = λ honest right laid r listed reach.
    let f : ReadBy g.row.R.Denot → StagedPage = λ r. staged_by (record { identity = g.R.Shows.identity r.receipt; shown = g.R.Shows.shown r.receipt }) r.page in
    let items = c.deref-read-items.result.now in
    let is = ap (λ (l : List (ReadBy g.row.R.Denot)). map f l) c.deref-read-items.ensures.value ∙ c.self.view_is in
    elim reach [
      | inl lent ↦ absurd (false≢true (c.in_default.ensures.lent lent))
      | inr has ↦ none-has c.args.self.now (g.R.Shows.identity c.args.receipt.now) c.args.offset (size_of r)
          (all-missed f items c.args.self.now is (λ s. (s.kept.identity ≡ g.R.Shows.identity c.args.receipt.now) × HasBytes s c.args.offset (size_of r)) c.loop-read.read-index c.loop-read-test.false (c.loop-read.invariant.1 honest right laid r listed)) has
    ]

pub returns-clause-missing : goal.returns-clause-missing
returns-clause-missing g c =
    let f : ReadBy g.row.R.Denot → StagedPage = λ r. staged_by (record { identity = g.R.Shows.identity r.receipt; shown = g.R.Shows.shown r.receipt }) r.page in
    let items = c.deref-read-items.result.now in
    let is = ap (λ (l : List (ReadBy g.row.R.Denot)). map f l) c.deref-read-items.ensures.value ∙ c.self.view_is in
    none-whole c.args.self.now (g.R.Shows.identity c.args.receipt.now)
    (all-missed f items c.args.self.now is (λ s. (s.kept.identity ≡ g.R.Shows.identity c.args.receipt.now) × (s.piece ≡ None)) c.loop-read.read-index c.loop-read-test.false c.loop-read.invariant.0)

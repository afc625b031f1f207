use Rattle.std.proofs.Common.{List, ◌≡◌, ◌∙◌, None, map, ap, sym, inr}
use Rattle.hybrid.specs.declared.staged.ReadBy.{ReadBy}
use Rattle.hybrid.specs.Reading.{staged_by}
use Rattle.hybrid.specs.Staging.{StagedPage}
use Rattle.hybrid.proofs.Finding.{some-so}
use Rattle.hybrid.proofs.Staging.{same-found, entry-there, more-missed, all-missed, none-whole}
use Rattle.hybrid.proofs.staged.Staged.page.Goals.{then-same+else-is_some, else-same}
use Rattle.hybrid.proofs.staged.Staged.page.Goals as goal

pub returns-then-is_some-clause-found : goal.returns-then-is_some-clause-found
returns-then-is_some-clause-found g c = λ honest right.
    let f : ReadBy g.row.R.Denot → StagedPage = λ r. staged_by (record { identity = g.R.Shows.identity r.receipt; shown = g.R.Shows.shown r.receipt }) r.page in
    let items = c.deref-read-items.result.now in
    let is = ap (λ (l : List (ReadBy g.row.R.Denot)). map f l) c.deref-read-items.ensures.value ∙ c.self.view_is in
    let item = c.read-item.result in
    let whole : (f item).piece ≡ None = c.whole-page.ensures.all.0 (sym c.is_some.ensures ∙ c.if-is_some.true) in
    let shown_is = same-found f items c.args.self.now is c.loop-read.read-index item c.loop-read-test.true c.read-item.is whole right
    ∙ g.met.R.Shows.one_page item.receipt c.args.receipt.now (c.same.ensures.only_copies honest c.if-same.true) in
    some-so c.whole-page.result _ _ (λ page page_is. page_is ∙ shown_is) c.whole-page.ensures.page

pub returns-then-is_some-clause-near : goal.returns-then-is_some-clause-near
returns-then-is_some-clause-near g c = λ honest.
    let f : ReadBy g.row.R.Denot → StagedPage = λ r. staged_by (record { identity = g.R.Shows.identity r.receipt; shown = g.R.Shows.shown r.receipt }) r.page in
    let items = c.deref-read-items.result.now in
    let is = ap (λ (l : List (ReadBy g.row.R.Denot)). map f l) c.deref-read-items.ensures.value ∙ c.self.view_is in
    let item = c.read-item.result in
    let there = entry-there f items c.args.self.now is c.loop-read.read-index item c.loop-read-test.true c.read-item.is in
    some-so c.whole-page.result _ _
    (λ page page_is. inr (record { one = f item; there = there; same = c.same.ensures.only_copies honest c.if-same.true; whole = c.whole-page.ensures.all.0 (sym c.is_some.ensures ∙ c.if-is_some.true) }))
    c.whole-page.ensures.page

pub loop-read-preserved : goal.loop-read-preserved
loop-read-preserved g c =
    let f : ReadBy g.row.R.Denot → StagedPage = λ r. staged_by (record { identity = g.R.Shows.identity r.receipt; shown = g.R.Shows.shown r.receipt }) r.page in
    let items = c.deref-read-items.result.now in
    let is = ap (λ (l : List (ReadBy g.row.R.Denot)). map f l) c.deref-read-items.ensures.value ∙ c.self.view_is in
    more-missed f items c.args.self.now is (λ s. (s.kept.identity ≡ g.R.Shows.identity c.args.receipt.now) × (s.piece ≡ None)) c.loop-read.read-index c.read-item.result c.loop-read-test.true c.read-item.is
    (λ same. elim c.if-same.branch [
      | then-same+else-is_some w ↦ let bad = w.is_some.ensures ∙ w.whole-page.ensures.all.1 same.1 in absurd (cc (w.if-is_some.false, bad))
      | else-same w ↦ let bad = c.same.ensures.copies same.0 in absurd (cc (w.if-same.false, bad))
    ]) c.loop-read.invariant

pub returns-clause-missing : goal.returns-clause-missing
returns-clause-missing g c =
    let f : ReadBy g.row.R.Denot → StagedPage = λ r. staged_by (record { identity = g.R.Shows.identity r.receipt; shown = g.R.Shows.shown r.receipt }) r.page in
    let items = c.deref-read-items.result.now in
    let is = ap (λ (l : List (ReadBy g.row.R.Denot)). map f l) c.deref-read-items.ensures.value ∙ c.self.view_is in
    none-whole c.args.self.now (g.R.Shows.identity c.args.receipt.now)
    (all-missed f items c.args.self.now is (λ s. (s.kept.identity ≡ g.R.Shows.identity c.args.receipt.now) × (s.piece ≡ None)) c.loop-read.read-index c.loop-read-test.false c.loop-read.invariant)

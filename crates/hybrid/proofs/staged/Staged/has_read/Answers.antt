use Rattle.std.proofs.Common.{List, ◌≡◌, ◌∙◌, map, ap, arith}
use Rattle.hybrid.specs.declared.staged.ReadBy.{ReadBy}
use Rattle.hybrid.specs.Reading.{staged_by}
use Rattle.hybrid.specs.Staging.{StagedPage}
use Rattle.hybrid.proofs.Staging.{more-missed, all-missed, none-read}
use Rattle.hybrid.proofs.staged.Staged.has_read.Goals as goal

pub loop-read-init : goal.loop-read-init
loop-read-init g c = λ k d below same. absurd (omega (arith, below))

pub loop-read-preserved : goal.loop-read-preserved
loop-read-preserved g c =
    let f : ReadBy g.row.R.Denot → StagedPage = λ r. staged_by (record { identity = g.R.Shows.identity r.receipt; shown = g.R.Shows.shown r.receipt }) r.page in
    let items = c.deref-read-items.result.now in
    let is = ap (λ (l : List (ReadBy g.row.R.Denot)). map f l) c.deref-read-items.ensures.value ∙ c.self.view_is in
    more-missed f items c.args.self.now is (λ s. s.kept.identity ≡ g.R.Shows.identity c.args.receipt.now) c.loop-read.read-index c.read-item.result c.loop-read-test.true c.read-item.is
    (λ same. let bad = c.if-same.ensures.copies same in absurd cc) c.loop-read.invariant

pub returns : goal.returns
returns g c =
    let f : ReadBy g.row.R.Denot → StagedPage = λ r. staged_by (record { identity = g.R.Shows.identity r.receipt; shown = g.R.Shows.shown r.receipt }) r.page in
    let items = c.deref-read-items.result.now in
    let is = ap (λ (l : List (ReadBy g.row.R.Denot)). map f l) c.deref-read-items.ensures.value ∙ c.self.view_is in
    λ read. absurd (none-read c.args.self.now (g.R.Shows.identity c.args.receipt.now)
    (all-missed f items c.args.self.now is (λ s. s.kept.identity ≡ g.R.Shows.identity c.args.receipt.now) c.loop-read.read-index c.loop-read-test.false c.loop-read.invariant) read)

use Rattle.std.proofs.Common.{◌≡◌, ◌/◌, ◌%◌, ◌<◌, ◌≤◌, ◌∙◌, Some, ap, sym, subst, arith, inl, inr}
use Rattle.std.specs.List.{Contains}
use Rattle.records.specs.declared.pages.TheConstants.{PAGE_SIZE}
use Rattle.frames.specs.Resident.{page_of}
use Rattle.records.specs.Records.{IsLaidOut, records_of, size_of}
use Rattle.hybrid.specs.HybridLog.{HybridLog, Kept, page_at, receipt_of}
use Rattle.hybrid.specs.Ways.{AreInReach}
use Rattle.hybrid.proofs.Logs.{some_is}
use Rattle.hybrid.proofs.Placing.{resident-there}
use Rattle.hybrid.proofs.Finding.{cold-has, page-cold, now-is, some-so, none-so}
use Rattle.hybrid.proofs.stripe.Stripe.live_record.Goals as goal

pub returns-clause-found : goal.returns-clause-found
returns-clause-found g c = λ honest right r laid.
    let p = c.args.self.now in
    let n = c.page-number.result in
    let at : n ≡ c.args.address / PAGE_SIZE = c.page-number.ensures in
    let first = ap (λ (q : HybridLog). q.resident.oldest) c.self.view_is in
    let high : n < p.resident.oldest = omega (arith, c.if-oldest-number.false, c.oldest.ensures.oldest, first) in
    let live : p.oldest ≤ n = omega (arith, c.requires.live, at) in
    let k : Kept = record { identity = g.R.Shows.identity c.in-Some-receipt.receipt.now; shown = g.R.Shows.shown c.in-Some-receipt.receipt.now } in
    let has = cold-has p n k live c.in-Some-receipt.ensures in
    let has_there : receipt_of p (c.args.address / PAGE_SIZE) ≡ Some k = subst (λ m. receipt_of p m ≡ Some k) at has in
    let same : page_at p (c.args.address / PAGE_SIZE) ≡ k.shown = ap (page_at p) (sym at) ∙ page-cold p n k (now-is _ _ c.self.view_is c.self.invariant.0) live high has in
    let offset : c.offset-in-Some-receipt.result ≡ c.args.address % PAGE_SIZE = c.offset-in-Some-receipt.ensures in
    let listed : Contains (records_of k.shown) (c.offset-in-Some-receipt.result, r) =
    subst (λ o. Contains (records_of k.shown) (o, r)) (sym offset) (subst (λ l. Contains (records_of l) (c.args.address % PAGE_SIZE, r)) same laid.listed) in
    some-so c.record.result _ _ (λ found e. (e.0, inr (k, has_there, subst (λ o. AreInReach g.R.Shows.lends c.args.staged.now k.identity o (size_of r)) offset e.1)))
    (c.record.ensures.found honest right (subst IsLaidOut same laid.laid) r listed)

pub returns-clause-unread : goal.returns-clause-unread
returns-clause-unread g c = λ honest right r laid.
    let p = c.args.self.now in
    let n = c.page-number.result in
    let at : n ≡ c.args.address / PAGE_SIZE = c.page-number.ensures in
    let first = ap (λ (q : HybridLog). q.resident.oldest) c.self.view_is in
    let high : n < p.resident.oldest = omega (arith, c.if-oldest-number.false, c.oldest.ensures.oldest, first) in
    let live : p.oldest ≤ n = omega (arith, c.requires.live, at) in
    let k : Kept = record { identity = g.R.Shows.identity c.in-Some-receipt.receipt.now; shown = g.R.Shows.shown c.in-Some-receipt.receipt.now } in
    let has = cold-has p n k live c.in-Some-receipt.ensures in
    let has_there : receipt_of p (c.args.address / PAGE_SIZE) ≡ Some k = subst (λ m. receipt_of p m ≡ Some k) at has in
    let same : page_at p (c.args.address / PAGE_SIZE) ≡ k.shown = ap (page_at p) (sym at) ∙ page-cold p n k (now-is _ _ c.self.view_is c.self.invariant.0) live high has in
    let offset : c.offset-in-Some-receipt.result ≡ c.args.address % PAGE_SIZE = c.offset-in-Some-receipt.ensures in
    let listed : Contains (records_of k.shown) (c.offset-in-Some-receipt.result, r) =
    subst (λ o. Contains (records_of k.shown) (o, r)) (sym offset) (subst (λ l. Contains (records_of l) (c.args.address % PAGE_SIZE, r)) same laid.listed) in
    none-so c.record.result _ _ (λ far near. elim near [
      | inl there ↦ absurd (omega (arith, there.0, high, at))
      | inr kept ↦
          let same_kept : kept.0 ≡ k = some_is kept.0 k (sym kept.1 ∙ has_there) in
          far (subst (λ o. AreInReach g.R.Shows.lends c.args.staged.now k.identity o (size_of r)) (sym offset)
          (subst (λ (q : Kept). AreInReach g.R.Shows.lends c.args.staged.now q.identity (c.args.address % PAGE_SIZE) (size_of r)) same_kept kept.2))
    ])
    (c.record.ensures.unread honest right (subst IsLaidOut same laid.laid) r listed)

pub returns-clause-missing : goal.returns-clause-missing
returns-clause-missing g c =
    let p = c.args.self.now in
    let n = c.page-number.result in
    let at : n ≡ c.args.address / PAGE_SIZE = c.page-number.ensures in
    let first = ap (λ (q : HybridLog). q.resident.oldest) c.self.view_is in
    let high : n < p.resident.oldest = omega (arith, c.if-oldest-number.false, c.oldest.ensures.oldest, first) in
    let live : p.oldest ≤ n = omega (arith, c.requires.live, at) in
    let k : Kept = record { identity = g.R.Shows.identity c.in-Some-receipt.receipt.now; shown = g.R.Shows.shown c.in-Some-receipt.receipt.now } in
    let has = cold-has p n k live c.in-Some-receipt.ensures in
    let has_there : receipt_of p (c.args.address / PAGE_SIZE) ≡ Some k = subst (λ m. receipt_of p m ≡ Some k) at has in
    none-so c.record.result _ _ (λ unread. record { kept = k; live = c.requires.live; has = has_there; away = λ there. omega (arith, there.0, high, at); unread = unread }) c.record.ensures.missing

pub returns-then-oldest-number-clause-resident : goal.returns-then-oldest-number-clause-resident
returns-then-oldest-number-clause-resident g c = λ r at.
    let t = resident-there c.args.self.now c.args.address r (now-is _ _ c.self.view_is c.self.invariant.0) at in
    let page = c.in-Some.ensures.bytes ∙ ap (page_of c.self.inside.frames) c.page-number.ensures ∙ ap (λ (q : HybridLog). page_of q.resident (c.args.address / PAGE_SIZE)) c.self.view_is in
    c.record_there.ensures.found (rw page t.laid) r (rw (page, c.offset.ensures) t.listed)

pub returns-clause-resident : goal.returns-clause-resident
returns-clause-resident g c = λ r at.
    let p = c.args.self.now in
    let first = ap (λ (q : HybridLog). q.resident.oldest) c.self.view_is in
    absurd (omega (arith, at.resident, c.page-number.ensures, c.if-oldest-number.false, c.oldest.ensures.oldest, first))

use Rattle.std.proofs.Common.{◌≡◌, Result, Ok, Err, ap, sym, ◌∙◌, ◌/◌, subst}
use Rattle.std.specs.Result.{IsOkAnd, result_ok}
use Rattle.std.specs.Option.{IsSomeAnd}
use Rattle.records.specs.declared.pages.TheConstants.{PAGE_SIZE}
use Rattle.records.specs.declared.entries.Record.{Record}
use Rattle.records.specs.Read.{shown}
use Rattle.frames.specs.Resident.{page_of, IsResident}
use Rattle.hybrid.specs.HybridLog.{HybridLog}
use Rattle.hybrid.proofs.Placing.{resident-there}
use Rattle.hybrid.proofs.Finding.{now-is}
use Rattle.hybrid.proofs.stripe.Stripe.resident_record.Goals as goal

IsSomeAnd-ok : {T E : Type 0} (r : Result T E) (P : T → Type 0) → IsOkAnd r P → IsSomeAnd (result_ok r) P
IsSomeAnd-ok (Ok x) P holds = holds
IsSomeAnd-ok (Err e) P holds = absurd holds

-- the page is the one that the address names, so the record that stands there is read
pub returns-in-Some : goal.returns-in-Some
returns-in-Some g c = λ r at.
    let t = resident-there c.args.self.now c.args.address r (now-is _ _ c.self.view_is c.self.invariant.0) at in
    let page = c.in-Some.ensures.bytes ∙ ap (page_of c.self.inside.frames) c.page.ensures ∙ ap (λ (q : HybridLog). page_of q.resident (c.args.address / PAGE_SIZE)) c.self.view_is in
    rw c.ok.ensures.value (IsSomeAnd-ok c.record_there.result (λ (x : Record). shown x ≡ r) (c.record_there.ensures.found (rw page t.laid) r (rw (page, c.offset.ensures) t.listed)))

pub returns-in-None : goal.returns-in-None
returns-in-None g c = λ r at.
    let t = resident-there c.args.self.now c.args.address r (now-is _ _ c.self.view_is c.self.invariant.0) at in
    let there : IsResident c.self.inside.frames c.page.result = rw c.page.ensures (subst (λ (q : HybridLog). IsResident q.resident (c.args.address / PAGE_SIZE)) (sym c.self.view_is) t.resident) in
    absurd (let bad = c.in-None.ensures.resident.1 there in cc)

use Rattle.std.proofs.Common.{ℕ, List, ◌≡◌, ◌+◌, ◌<◌, ◌∙◌, None, inr, ap, subst, refl, arith}
use Rattle.frames.specs.Resident.{page_of, with_page}
use Rattle.hybrid.specs.HybridLog.{HybridLog, Kept, log_of, receipt_of, with_receipt}
use Rattle.hybrid.proofs.Reserving.{none-of}
use Rattle.hybrid.proofs.Finding.{now-is}
use Rattle.hybrid.proofs.Serving.{first-kept, new-one}
use Rattle.hybrid.proofs.Keeping.{counted-from, with-from}
use Rattle.hybrid.proofs.Leaving.{left-from, unwritten}
use Rattle.hybrid.proofs.stripe.Stripe.shed_oldest.Goals as goal

pub invariant_of-self : goal.invariant_of-self
invariant_of-self g c =
    let same = ap (λ (bytes : List ℕ). with_page c.self.inside.frames c.self.inside.frames.oldest bytes) (c.in_default.ensures.kept ∙ c.oldest_mut.ensures.bytes) ∙ c.oldest_mut.ensures.unwritten in
    (unwritten _ _ same c.self.invariant.0, c.self.invariant.1, c.self.invariant.2)

pub invariant_of-self-2 : goal.invariant_of-self-2
invariant_of-self-2 g c =
    let at : c.oldest.result ≡ c.args.self.now.resident.oldest = c.oldest.ensures.oldest ∙ ap (λ (q : HybridLog). q.resident.oldest) c.self.view_is in
    let none_there : receipt_of c.args.self.now c.args.self.now.resident.oldest ≡ None = none-of (receipt_of c.args.self.now c.args.self.now.resident.oldest) (λ some. let bad = c.if-has_receipt.ensures.1 some in absurd cc) in
    let none : receipt_of c.args.self.now c.oldest.result ≡ None = ap (receipt_of c.args.self.now) at ∙ none_there in
    let left = left-from (λ r. record { identity = g.R.Shows.identity r; shown = g.R.Shows.shown r }) c.self.inside.receipts.items _ c.args.self.now c.drop_oldest-dropped.new.self c.drop_oldest-dropped.result c.oldest.result (c.self.inside.unreleased + 1) c.in-Ok.receipt c.exchange.new.page c.self.view_is c.self.invariant.0 refl c.oldest.ensures.oldest
    c.requires (c.in-Ok.ensures.shown ∙ c.oldest_mut.ensures.bytes) (omega (arith, c.self.invariant.0.counted)) (omega (arith, c.if-self.false, c.self.invariant.0.limited)) c.drop_oldest-dropped.ensures.outside.1 c.drop_oldest-dropped.ensures.dropped (c.oldest_mut.ensures.dropped c.exchange.new.page) in (
      left.part,
      omega (arith, c.self.invariant.1, ap (λ (q : HybridLog). q.resident.frames) left.dropped),
      counted-from (λ r. record { identity = g.R.Shows.identity r; shown = g.R.Shows.shown r }) c.self.inside.receipts.items _ _ c.oldest.result c.self.inside.kept c.in-Ok.receipt c.self.view_is c.self.invariant.0 refl (omega (arith, c.oldest.ensures.oldest)) (omega (arith, at, c.requires)) none c.self.invariant.2,
    )

pub returns-clause-left : goal.returns-clause-left
returns-clause-left g c =
    let k : Kept = record { identity = g.R.Shows.identity c.in-Ok.receipt; shown = g.R.Shows.shown c.in-Ok.receipt } in
    let at : c.oldest.result ≡ c.args.self.now.resident.oldest = c.oldest.ensures.oldest ∙ ap (λ (q : HybridLog). q.resident.oldest) c.self.view_is in
    let more : c.self.inside.unreleased + 1 ≡ c.args.self.now.unreleased + 1 = ap (λ (q : HybridLog). q.unreleased + 1) c.self.view_is in
    let same = with-from (λ r. record { identity = g.R.Shows.identity r; shown = g.R.Shows.shown r }) c.self.inside.receipts.items _ _ c.oldest.result c.in-Ok.receipt c.self.view_is refl in
    let none : receipt_of c.args.self.now c.args.self.now.resident.oldest ≡ None = none-of (receipt_of c.args.self.now c.args.self.now.resident.oldest) (λ some. let bad = c.if-has_receipt.ensures.1 some in absurd cc) in
    let few : c.args.self.now.unreleased < c.args.self.now.places =
    omega (arith, c.if-self.false, c.self.invariant.0.limited, ap (λ (q : HybridLog). q.unreleased) c.self.view_is, ap (λ (q : HybridLog). q.places) c.self.view_is) in
    let page : c.oldest_mut.result.now ≡ page_of c.args.self.now.resident c.args.self.now.resident.oldest =
    c.oldest_mut.ensures.bytes ∙ ap (λ (q : HybridLog). page_of q.resident q.resident.oldest) c.self.view_is in
    let mid_is = ap (λ (q : HybridLog). record q { unreleased = c.self.inside.unreleased + 1 }) same
    ∙ ap (λ (n : ℕ). record (with_receipt c.args.self.now n k) { unreleased = c.self.inside.unreleased + 1 }) at
    ∙ ap (λ (n : ℕ). record (with_receipt c.args.self.now c.args.self.now.resident.oldest k) { unreleased = n }) more in
    let left = left-from (λ r. record { identity = g.R.Shows.identity r; shown = g.R.Shows.shown r }) c.self.inside.receipts.items _ c.args.self.now c.drop_oldest-dropped.new.self c.drop_oldest-dropped.result c.oldest.result (c.self.inside.unreleased + 1) c.in-Ok.receipt c.exchange.new.page c.self.view_is c.self.invariant.0 refl c.oldest.ensures.oldest
    c.requires (c.in-Ok.ensures.shown ∙ c.oldest_mut.ensures.bytes) (omega (arith, c.self.invariant.0.counted)) (omega (arith, c.if-self.false, c.self.invariant.0.limited)) c.drop_oldest-dropped.ensures.outside.1 c.drop_oldest-dropped.ensures.dropped (c.oldest_mut.ensures.dropped c.exchange.new.page) in
    record {
      mid = _;
      flushed = record { how = inr (c.in-Ok.receipt, none, few, subst (λ (bytes : List ℕ). g.D.Device.wrote c.args.device.now bytes c.in-Ok.receipt c.exchange.new.self) page c.in-Ok.ensures.wrote, mid_is) };
      kept = left.kept ∙ ap (λ (q : HybridLog). log_of q) c.self.view_is;
      served = λ honest.
          new-one g.D.Device.serves (λ r. record { identity = g.R.Shows.identity r; shown = g.R.Shows.shown r }) c.args.self.now _ c.exchange.new.self c.args.self.now.resident.oldest (c.args.self.now.unreleased + 1) c.in-Ok.receipt mid_is
          (first-kept c.args.self.now (now-is _ _ c.self.view_is c.self.invariant.0))
          (λ r e. g.met.D.Device.copies c.exchange.new.self c.in-Ok.receipt r (ap (λ (k : Kept). k.identity) e) (c.in-Ok.ensures.served honest));
      dropped = left.dropped;
      log = left.log;
    }

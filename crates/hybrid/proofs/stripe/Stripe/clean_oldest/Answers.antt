use Rattle.std.proofs.Common.{◌≡◌, ◌≤◌, ◌∙◌, ℕ, List, ap, refl, subst, sym, arith}
use Rattle.records.specs.Records.{IsLaidOut, records_of}
use Rattle.hybrid.specs.HybridLog.{Kept, log_of, shown_page}
use Rattle.hybrid.specs.Staging.{AreMarked, AreShort}
use Rattle.hybrid.specs.Weighing.{live_weight}
use Rattle.hybrid.proofs.Parts.{oldest}
use Rattle.hybrid.proofs.Finding.{page-cold}
use Rattle.hybrid.proofs.Unlinking.{cleaned-same, cleaned-added, grown-count}
use Rattle.hybrid.proofs.stripe.Stripe.clean_oldest.Goals as goal

pub returns-in_default-page-clause-cold : goal.returns-in_default-page-clause-cold
returns-in_default-page-clause-cold g c =
    let lt = c.in-Some.ensures.resident.0 refl in (
      refl,
      refl,
      record {
        kept = record { identity = g.R.Shows.identity c.in-Some.receipt.now; shown = g.R.Shows.shown c.in-Some.receipt.now };
        live = omega (arith, c.oldest-number.ensures.number);
        has = rw c.oldest-number.ensures.number c.in-Some.ensures.receipt;
        away = λ there. omega (arith, there, lt, c.oldest-number.ensures.number);
        unread = c.in_default-page.ensures.missing;
      },
    )

pub returns-then-room-marks-clause-weighed : goal.returns-then-room-marks-clause-weighed
returns-then-room-marks-clause-weighed g c = λ honest right.
    let k : Kept = record { identity = g.R.Shows.identity c.in-Some.receipt.now; shown = g.R.Shows.shown c.in-Some.receipt.now } in
    let lt = c.in-Some.ensures.resident.0 refl in
    let page = c.in-Some-page.ensures.found honest right in
    let weighs = c.in-Ok.ensures.weight honest right lt k c.in-Some.ensures.receipt page in
    let whole = weighs ∙ ap (λ (bytes : List ℕ). live_weight (log_of c.args.self.now) c.args.self.now.oldest (records_of bytes)) (page ∙ sym (ap shown_page c.in-Some.ensures.receipt)) in
    whole

pub returns-else-room-marks-clause-weighed : goal.returns-else-room-marks-clause-weighed
returns-else-room-marks-clause-weighed g c = λ honest right.
    let k : Kept = record { identity = g.R.Shows.identity c.in-Some.receipt.now; shown = g.R.Shows.shown c.in-Some.receipt.now } in
    let lt = c.in-Some.ensures.resident.0 refl in
    let page = c.in-Some-page.ensures.found honest right in
    let weighs = c.in-Ok.ensures.weight honest right lt k c.in-Some.ensures.receipt page in
    let whole = weighs ∙ ap (λ (bytes : List ℕ). live_weight (log_of c.args.self.now) c.args.self.now.oldest (records_of bytes)) (page ∙ sym (ap shown_page c.in-Some.ensures.receipt)) in
    omega (arith, whole, c.if-room-marks.false)

pub returns-else-room-marks-clause-same : goal.returns-else-room-marks-clause-same
returns-else-room-marks-clause-same g c = λ honest right.
    let k : Kept = record { identity = g.R.Shows.identity c.in-Some.receipt.now; shown = g.R.Shows.shown c.in-Some.receipt.now } in
    let lt = c.in-Some.ensures.resident.0 refl in
    let page = c.in-Some-page.ensures.found honest right in
    let o = oldest c.args.self.now k c.oldest-number.ensures.log lt c.in-Some.ensures.receipt in
    let same : c.copy_from.new.self ≡ k.shown = c.copy_from.ensures ∙ page in
    let laid : IsLaidOut c.copy_from.new.self = rw same o.laid in
    let short : AreShort (records_of c.copy_from.new.self) = rw same o.short in
    let marked = subst (λ (bytes : List ℕ). AreMarked (log_of c.args.self.now) c.args.self.now.oldest (records_of bytes) c.in-Ok.marks.live) (sym c.copy_from.ensures) (c.in-Ok.ensures.live honest right lt k c.in-Some.ensures.receipt page) in
    let weighs = c.in-Ok.ensures.weight honest right lt k c.in-Some.ensures.receipt page in
    let enough : live_weight (log_of c.args.self.now) c.args.self.now.oldest (records_of c.copy_from.new.self) ≤ c.args.room.weight =
    omega (arith, weighs, c.if-room-marks.false, ap (λ (bytes : List ℕ). live_weight (log_of c.args.self.now) c.args.self.now.oldest (records_of bytes)) c.copy_from.ensures) in
    cleaned-same c.args.self.now c.copy_live.new.self c.forget_oldest.new.self c.copy_from.new.self k _ c.args.room.weight c.copy_live.ensures.grown (c.copy_live.ensures.copied laid short marked enough)
    c.forget_oldest.ensures.log c.in-Some.ensures.receipt c.forget_oldest.ensures.receipt same

pub returns-else-room-marks-clause-added : goal.returns-else-room-marks-clause-added
returns-else-room-marks-clause-added g c = λ honest right.
    let k : Kept = record { identity = g.R.Shows.identity c.in-Some.receipt.now; shown = g.R.Shows.shown c.in-Some.receipt.now } in
    let lt = c.in-Some.ensures.resident.0 refl in
    let page = c.in-Some-page.ensures.found honest right in
    let o = oldest c.args.self.now k c.oldest-number.ensures.log lt c.in-Some.ensures.receipt in
    let same : c.copy_from.new.self ≡ k.shown = c.copy_from.ensures ∙ page in
    let laid : IsLaidOut c.copy_from.new.self = rw same o.laid in
    let short : AreShort (records_of c.copy_from.new.self) = rw same o.short in
    let marked = subst (λ (bytes : List ℕ). AreMarked (log_of c.args.self.now) c.args.self.now.oldest (records_of bytes) c.in-Ok.marks.live) (sym c.copy_from.ensures) (c.in-Ok.ensures.live honest right lt k c.in-Some.ensures.receipt page) in
    let weighs = c.in-Ok.ensures.weight honest right lt k c.in-Some.ensures.receipt page in
    let enough : live_weight (log_of c.args.self.now) c.args.self.now.oldest (records_of c.copy_from.new.self) ≤ c.args.room.weight =
    omega (arith, weighs, c.if-room-marks.false, ap (λ (bytes : List ℕ). live_weight (log_of c.args.self.now) c.args.self.now.oldest (records_of bytes)) c.copy_from.ensures) in
    let there = page-cold c.args.self.now c.args.self.now.oldest k c.oldest-number.ensures.log (omega arith) lt c.in-Some.ensures.receipt in
    cleaned-added c.args.self.now c.copy_live.new.self c.forget_oldest.new.self c.copy_from.new.self (c.copy_live.ensures.copied laid short marked enough) (same ∙ sym there) c.forget_oldest.ensures.part

pub returns-else-room-marks-clause-counted : goal.returns-else-room-marks-clause-counted
returns-else-room-marks-clause-counted g c =
    (c.forget_oldest.ensures.counted, grown-count c.args.self.now c.copy_live.new.self c.args.room.weight c.copy_live.ensures.grown ∙ c.forget_oldest.ensures.fewer)

use Rattle.std.proofs.Common.{◌∙◌, ℕ, List, ap, refl, sym, arith}
use Rattle.records.specs.Records.{records_of}
use Rattle.hybrid.specs.HybridLog.{Kept, log_of, shown_page}
use Rattle.hybrid.specs.Weighing.{live_weight}
use Rattle.hybrid.proofs.stripe.Stripe.weigh_oldest.Goals as goal

pub returns-in_default-page-clause-cold : goal.returns-in_default-page-clause-cold
returns-in_default-page-clause-cold g c =
    let lt = c.in-Some.ensures.resident.0 refl in
    record {
      kept = record { identity = g.R.Shows.identity c.in-Some.receipt.now; shown = g.R.Shows.shown c.in-Some.receipt.now };
      live = omega (arith, c.oldest-number.ensures.number);
      has = rw c.oldest-number.ensures.number c.in-Some.ensures.receipt;
      away = λ there. omega (arith, there, lt, c.oldest-number.ensures.number);
      unread = c.in_default-page.ensures.missing;
    }

pub returns-in-Ok-clause-kept : goal.returns-in-Ok-clause-kept
returns-in-Ok-clause-kept g c = (record { identity = g.R.Shows.identity c.in-Some.receipt.now; shown = g.R.Shows.shown c.in-Some.receipt.now }, c.in-Some.ensures.receipt)

pub returns-in-Ok-clause-weight : goal.returns-in-Ok-clause-weight
returns-in-Ok-clause-weight g c = λ honest right.
    let k : Kept = record { identity = g.R.Shows.identity c.in-Some.receipt.now; shown = g.R.Shows.shown c.in-Some.receipt.now } in
    let lt = c.in-Some.ensures.resident.0 refl in
    let page = c.in-Some-page.ensures.found honest right in
    let weighs = c.in-Ok.ensures.weight honest right lt k c.in-Some.ensures.receipt page in
    let whole = weighs ∙ ap (λ (bytes : List ℕ). live_weight (log_of c.args.self.now) c.args.self.now.oldest (records_of bytes)) (page ∙ sym (ap shown_page c.in-Some.ensures.receipt)) in
    whole

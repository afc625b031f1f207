use Rattle.std.proofs.Common.{◌≡◌, ◌+◌, ◌<◌, ◌≤◌, ◌-◌, ◌∙◌, None, ap, subst, sym, refl, arith, rules}
use Rattle.frames.specs.Resident.{first_mutable, page_of}
use Rattle.hybrid.specs.HybridLog.{HybridLog, log_of, count_kept, receipt_of}
use Rattle.hybrid.proofs.Keeping.{counted-from, keeps-from, with-from, none-at}
use Rattle.hybrid.proofs.stripe.Stripe.mark_flushed.Goals as goal

pub invariant_of-self : goal.invariant_of-self
invariant_of-self g c =
    let low : c.self.inside.frames.oldest ≤ c.args.number = omega (arith, c.if-number-oldest.false, c.oldest.ensures.oldest) in
    let below_inside : c.args.number < first_mutable c.self.inside.frames = omega (arith, c.if-first_mutable-number.false, c.first_mutable.ensures) in
    let below : c.args.number < first_mutable c.args.self.now.resident = subst (λ (q : HybridLog). c.args.number < first_mutable q.resident) c.self.view_is below_inside in
    let same : c.in-Some.written.now ≡ c.args.page.now = search rules in
    let counts = subst (λ (q : HybridLog). count_kept q.kept + 1 ≤ q.unreleased) (sym c.self.view_is) (omega (arith, c.requires.place)) in
    let h = keeps-from (λ r. record { identity = g.R.Shows.identity r; shown = g.R.Shows.shown r }) c.self.inside.receipts.items _ _ c.args.number c.self.inside.unreleased c.args.receipt c.self.view_is c.self.invariant.0 refl low below
    (c.requires.shown ∙ sym same ∙ c.in-Some.ensures.bytes) counts c.self.invariant.0.limited in
    let none = none-at (λ r. record { identity = g.R.Shows.identity r; shown = g.R.Shows.shown r }) c.self.inside.receipts.items (c.args.number - c.self.inside.oldest) c.index.result.now c.index.ensures (sym c.is_some.ensures ∙ c.if-is_some.false) in
    let none_now = subst (λ (q : HybridLog). receipt_of q c.args.number ≡ None) c.self.view_is none in
    (h.part, c.self.invariant.1, counted-from (λ r. record { identity = g.R.Shows.identity r; shown = g.R.Shows.shown r }) c.self.inside.receipts.items _ _ c.args.number c.self.inside.kept c.args.receipt c.self.view_is c.self.invariant.0 refl low below none_now c.self.invariant.2)

pub returns-clause-exact : goal.returns-clause-exact
returns-clause-exact g c =
    let low : c.self.inside.frames.oldest ≤ c.args.number = omega (arith, c.if-number-oldest.false, c.oldest.ensures.oldest) in
    let below_inside : c.args.number < first_mutable c.self.inside.frames = omega (arith, c.if-first_mutable-number.false, c.first_mutable.ensures) in
    let below : c.args.number < first_mutable c.args.self.now.resident = subst (λ (q : HybridLog). c.args.number < first_mutable q.resident) c.self.view_is below_inside in
    let same : c.in-Some.written.now ≡ c.args.page.now = search rules in
    let counts = subst (λ (q : HybridLog). count_kept q.kept + 1 ≤ q.unreleased) (sym c.self.view_is) (omega (arith, c.requires.place)) in
    let none = none-at (λ r. record { identity = g.R.Shows.identity r; shown = g.R.Shows.shown r }) c.self.inside.receipts.items (c.args.number - c.self.inside.oldest) c.index.result.now c.index.ensures (sym c.is_some.ensures ∙ c.if-is_some.false) in (
      λ _. (
        record {
          from = subst (λ (q : HybridLog). q.resident.oldest ≤ c.args.number) c.self.view_is low;
          below = below;
          none = subst (λ (q : HybridLog). receipt_of q c.args.number ≡ None) c.self.view_is none;
        },
        sym same ∙ c.in-Some.ensures.bytes ∙ ap (λ (q : HybridLog). page_of q.resident c.args.number) c.self.view_is,
      ),
      λ _. refl,
    )

pub returns-clause-kept : goal.returns-clause-kept
returns-clause-kept g c = with-from (λ r. record { identity = g.R.Shows.identity r; shown = g.R.Shows.shown r }) c.self.inside.receipts.items _ _ c.args.number c.args.receipt c.self.view_is refl

pub returns-clause-log : goal.returns-clause-log
returns-clause-log g c =
    let low : c.self.inside.frames.oldest ≤ c.args.number = omega (arith, c.if-number-oldest.false, c.oldest.ensures.oldest) in
    let below_inside : c.args.number < first_mutable c.self.inside.frames = omega (arith, c.if-first_mutable-number.false, c.first_mutable.ensures) in
    let below : c.args.number < first_mutable c.args.self.now.resident = subst (λ (q : HybridLog). c.args.number < first_mutable q.resident) c.self.view_is below_inside in
    let same : c.in-Some.written.now ≡ c.args.page.now = search rules in
    let counts = subst (λ (q : HybridLog). count_kept q.kept + 1 ≤ q.unreleased) (sym c.self.view_is) (omega (arith, c.requires.place)) in
    let h = keeps-from (λ r. record { identity = g.R.Shows.identity r; shown = g.R.Shows.shown r }) c.self.inside.receipts.items _ _ c.args.number c.self.inside.unreleased c.args.receipt c.self.view_is c.self.invariant.0 refl low below
    (c.requires.shown ∙ sym same ∙ c.in-Some.ensures.bytes) counts c.self.invariant.0.limited in
    h.log ∙ ap (λ (q : HybridLog). log_of q) c.self.view_is

pub returns-clause-more : goal.returns-clause-more
returns-clause-more g c =
    let low : c.self.inside.frames.oldest ≤ c.args.number = omega (arith, c.if-number-oldest.false, c.oldest.ensures.oldest) in
    let below_inside : c.args.number < first_mutable c.self.inside.frames = omega (arith, c.if-first_mutable-number.false, c.first_mutable.ensures) in
    let below : c.args.number < first_mutable c.args.self.now.resident = subst (λ (q : HybridLog). c.args.number < first_mutable q.resident) c.self.view_is below_inside in
    let none = none-at (λ r. record { identity = g.R.Shows.identity r; shown = g.R.Shows.shown r }) c.self.inside.receipts.items (c.args.number - c.self.inside.oldest) c.index.result.now c.index.ensures (sym c.is_some.ensures ∙ c.if-is_some.false) in
    let none_now = subst (λ (q : HybridLog). receipt_of q c.args.number ≡ None) c.self.view_is none in
    let one = counted-from (λ r. record { identity = g.R.Shows.identity r; shown = g.R.Shows.shown r }) c.self.inside.receipts.items _ _ c.args.number c.self.inside.kept c.args.receipt c.self.view_is c.self.invariant.0 refl low below none_now c.self.invariant.2 in
    omega (arith, one, c.self.invariant.2, ap (λ (q : HybridLog). count_kept q.kept) c.self.view_is)

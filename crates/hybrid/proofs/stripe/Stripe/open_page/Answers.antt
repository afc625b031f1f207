use Rattle.std.proofs.Common.{◌<◌, length, ap, subst, sym, ◌∙◌, refl, arith}
use Rattle.hybrid.specs.HybridLog.{HybridLog}
use Rattle.hybrid.proofs.Opening.{opened-count, opened-from, kept-room, opened-log-from}
use Rattle.hybrid.proofs.Tail.{opened-tail-from}
use Rattle.hybrid.proofs.stripe.Stripe.open_page.Goals as goal

pub unreachable-requires : goal.unreachable-requires
unreachable-requires g c =
    let room = subst (λ (q : HybridLog). length q.resident.pages < q.resident.frames) (sym c.self.view_is) (omega (arith, c.requires.room)) in
    let full = c.in_default.ensures.full.0 refl in omega (arith, room, full)

pub push_back_reserved-requires : goal.push_back_reserved-requires
push_back_reserved-requires g c =
    let room = subst (λ (q : HybridLog). length q.resident.pages < q.resident.frames) (sym c.self.view_is) (omega (arith, c.requires.room)) in
    let few = kept-room (λ r. record { identity = g.R.Shows.identity r; shown = g.R.Shows.shown r }) c.self.inside.receipts.items _ c.self.invariant.0 refl room in
    omega (arith, few, c.self.invariant.1)

pub invariant_of-self : goal.invariant_of-self
invariant_of-self g c =
    let part = opened-from (λ r. record { identity = g.R.Shows.identity r; shown = g.R.Shows.shown r }) c.self.inside.receipts.items _ _ c.open_next.new.self c.self.view_is c.self.invariant.0 refl c.requires.room (omega (arith, c.requires.numbers)) c.in-Ok.ensures.opened c.in-Ok.ensures.empty in
    let count = opened-count (λ r. record { identity = g.R.Shows.identity r; shown = g.R.Shows.shown r }) c.self.inside.receipts.items in (
      rw c.push_back_reserved.ensures.items part,
      omega (arith, c.push_back_reserved.ensures.capacity, c.self.invariant.1, ap (λ r. r.frames) c.in-Ok.ensures.opened),
      rw c.push_back_reserved.ensures.items (c.self.invariant.2 ∙ sym count),
    )

pub returns-clause-tail : goal.returns-clause-tail
returns-clause-tail g c = opened-tail-from _ _ c.open_next.new.self c.self.view_is c.in-Ok.ensures.opened c.in-Ok.ensures.empty

pub returns-clause-records : goal.returns-clause-records
returns-clause-records g c =
    opened-log-from (λ r. record { identity = g.R.Shows.identity r; shown = g.R.Shows.shown r }) c.self.inside.receipts.items c.push_back_reserved.new.self.items _ _ c.open_next.new.self c.self.view_is c.self.invariant.0 refl c.requires.room (omega (arith, c.requires.numbers)) c.in-Ok.ensures.opened c.in-Ok.ensures.empty c.push_back_reserved.ensures.items

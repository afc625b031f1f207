use Rattle.std.proofs.Common.{rules, ◌∷◌, ap, ◌∙◌, sym, refl, arith}
use Rattle.hybrid.specs.HybridLog.{HybridLog, count_kept}
use Rattle.hybrid.proofs.Parts.{forgotten-from, kept-some, kept-length, fewer-kept, one-fewer}
use Rattle.hybrid.proofs.stripe.Stripe.forget_oldest.Goals as goal

pub unreachable-requires : goal.unreachable-requires
unreachable-requires g c =
    let some = kept-length (λ r. record { identity = g.R.Shows.identity r; shown = g.R.Shows.shown r }) c.self.inside.receipts.items _ c.self.invariant.0 refl in
    let bad = c.in_default.ensures.variant.1 (omega (arith, some, c.len-count.ensures)) in absurd cc

pub unreachable-requires-in_default-first : goal.unreachable-requires-in_default-first
unreachable-requires-in_default-first g c =
    kept-some (λ r. record { identity = g.R.Shows.identity r; shown = g.R.Shows.shown r }) c.self.inside.receipts.items _ _ c.self.view_is c.self.invariant.0 c.requires refl c.pop_front.new.self.items
    (c.in-Some.ensures.items ∙ ap (λ y. y ∷ c.pop_front.new.self.items) c.in_default-first.is)

pub invariant_of-self : goal.invariant_of-self
invariant_of-self g c =
    let f = forgotten-from (λ r. record { identity = g.R.Shows.identity r; shown = g.R.Shows.shown r }) c.self.inside.receipts.items c.pop_front.new.self.items c.in-Some.first c.in-Some-first.receipt _ _ c.self.view_is c.self.invariant.0 c.requires refl c.in-Some.ensures.items c.in-Some-first.is in
    let fewer = one-fewer (λ r. record { identity = g.R.Shows.identity r; shown = g.R.Shows.shown r }) c.self.inside.receipts.items c.pop_front.new.self.items c.in-Some.first c.in-Some-first.receipt c.in-Some.ensures.items c.in-Some-first.is in
    (f.part, rw c.in-Some.ensures.capacity c.self.invariant.1, omega (arith, fewer, c.self.invariant.2))

pub returns-clause-log : goal.returns-clause-log
returns-clause-log g c =
    let f = forgotten-from (λ r. record { identity = g.R.Shows.identity r; shown = g.R.Shows.shown r }) c.self.inside.receipts.items c.pop_front.new.self.items c.in-Some.first c.in-Some-first.receipt _ _ c.self.view_is c.self.invariant.0 c.requires refl c.in-Some.ensures.items c.in-Some-first.is in
    rw (← c.self.view_is) f.cut

pub returns-clause-alone : goal.returns-clause-alone
returns-clause-alone g c =
    let f = forgotten-from (λ r. record { identity = g.R.Shows.identity r; shown = g.R.Shows.shown r }) c.self.inside.receipts.items c.pop_front.new.self.items c.in-Some.first c.in-Some-first.receipt _ _ c.self.view_is c.self.invariant.0 c.requires refl c.in-Some.ensures.items c.in-Some-first.is in
    f.alone

pub returns-clause-counted : goal.returns-clause-counted
returns-clause-counted g c =
    fewer-kept (λ r. record { identity = g.R.Shows.identity r; shown = g.R.Shows.shown r }) c.self.inside.receipts.items c.pop_front.new.self.items c.in-Some.first c.in-Some-first.receipt _ c.self.invariant.0 refl c.in-Some.ensures.items c.in-Some-first.is

pub returns-clause-fewer : goal.returns-clause-fewer
returns-clause-fewer g c =
    let fewer = one-fewer (λ r. record { identity = g.R.Shows.identity r; shown = g.R.Shows.shown r }) c.self.inside.receipts.items c.pop_front.new.self.items c.in-Some.first c.in-Some-first.receipt c.in-Some.ensures.items c.in-Some-first.is in
    sym (ap (λ (q : HybridLog). count_kept q.kept) c.self.view_is) ∙ fewer

pub returns-clause-part : goal.returns-clause-part
returns-clause-part g c = search rules

use Rattle.std.proofs.Common.{rules, ◌≡◌, ◌∙◌, ℕ, option_map, refl, sym, ap}
use Rattle.std.proofs.lemmas.Bool.{eqb-true}
use Rattle.std.specs.Prelude.{IsSome}
use Rattle.std.specs.Option.{option_copied}
use Rattle.records.specs.Records.{Stored}
use Rattle.hybrid.proofs.Finding.{at-head}
use Rattle.hybrid.proofs.stripe.Stripe.is_live.Goals as goal

pub returns-then-eq-clause-live : goal.returns-then-eq-clause-live
returns-then-eq-clause-live g c = λ honest right r listed keyed.
    let first : c.args.address ≡ c.from_number.result = eqb-true c.args.address c.from_number.result (sym c.eq.ensures ∙ c.if-eq.true) in
    let new = at-head _ _ c.args.key.now c.hash_of-hash.result c.index_hash.result c.head.result c.args.address r c.self.view_is c.self.invariant.0 c.hash_of-hash.ensures c.index_hash.ensures c.head.ensures.head listed keyed (first ∙ c.from_number.ensures) in
    let some : IsSome (option_copied c.args.value) = search rules in
    (λ t. (ap (option_map (λ (e : ℕ × Stored). e.0)) new, some), λ both. refl)

pub returns-in_err-at-clause-needed : goal.returns-in_err-at-clause-needed
returns-in_err-at-clause-needed g c = search rules

pub returns-in-Some-clause-live : goal.returns-in-Some-clause-live
returns-in-Some-clause-live g c = search rules

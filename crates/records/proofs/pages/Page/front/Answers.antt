use Rattle.std.proofs.Common.{◌≡◌, ◌∙◌, ℕ, List, length, ap, sym, refl, arith, rules}
use Rattle.records.specs.declared.pages.TheConstants.{USED_END_AT}
use Rattle.records.specs.Fields.{u32_at, u64_at}
use Rattle.records.proofs.Memory.{nothing}
use Rattle.records.proofs.Held.{held-header, held-number, held-end, blank-number, blank-end}
use Rattle.records.proofs.pages.Page.front.Goals as goal

pub returns-then-is_empty : goal.returns-then-is_empty
returns-then-is_empty c =
    let none : length c.self.inside.bytes.items ≡ 0 = search rules in
    record {
      number = blank-number _ c.self.inside.bytes.items c.args.self.now refl (nothing c.self.inside.bytes.items none) (sym c.self.view_is);
      end = blank-end _ c.self.inside.bytes.items c.args.self.now refl (nothing c.self.inside.bytes.items none) (sym c.self.view_is);
      size = search rules;
    }

pub returns : goal.returns
returns c =
    let some : length c.self.inside.bytes.items ≡ 0 → ⊥ = λ none. search rules in
    let held = held-header c.self.inside.bytes.items _ c.self.invariant some in
    record {
      number = ap (λ (i : List ℕ). u64_at i 0) c.deref.ensures.value ∙ held-number c.self.inside.bytes.items c.args.self.now held (sym c.self.view_is);
      end = ap (λ (i : List ℕ). u32_at i USED_END_AT) c.deref.ensures.value ∙ held-end c.self.inside.bytes.items c.args.self.now held (sym c.self.view_is);
      size = omega (arith, held, ap (λ (i : List ℕ). length i) c.deref.ensures.value);
    }

use Rattle.std.proofs.Common.{◌≤◌, ℕ, List, length, sym, subst}
use Rattle.records.specs.declared.pages.TheConstants.{PAGE_SIZE}
use Rattle.records.specs.Page.{used_end}
use Rattle.records.proofs.Held.{held-used}
use Rattle.records.proofs.pages.Page.memory.Goals as goal

pub returns-clause-used : goal.returns-clause-used
returns-clause-used c =
    let F : List ℕ → List ℕ → Type 0 = λ p i. used_end p ≤ PAGE_SIZE → used_end p ≤ length i in
    subst (λ (i : List ℕ). F c.args.self.now i) (sym c.deref.ensures.value)
    (subst (λ (p : List ℕ). F p c.self.inside.bytes.items) c.self.view_is (held-used c.self.inside.bytes.items _ c.self.invariant))

use Rattle.std.proofs.Common.{◌∙◌, ◌-◌, ℕ, List, length, ap, sym, refl, replicate}
use Rattle.std.proofs.lemmas.List.{length-replicate}
use Rattle.records.specs.declared.pages.TheConstants.{PAGE_SIZE}
use Rattle.records.specs.Memory.{bytes_of}
use Rattle.records.proofs.Memory.{filled-bytes, rest-zero}
use Rattle.records.proofs.pages.Page.parts.Goals as goal

pub returns-clause-bytes : goal.returns-clause-bytes
returns-clause-bytes c =
    filled-bytes (length c.deref.result.now) c.deref.result.now _ refl refl ∙ (ap (λ (i : List ℕ). bytes_of i) c.deref.ensures.value ∙ c.self.view_is)

pub returns-clause-zeros : goal.returns-clause-zeros
returns-clause-zeros c =
    let n : ℕ = PAGE_SIZE - length c.deref.result.now in
    let zeros = rest-zero (length c.deref.result.now) (length c.deref.result.now) _ refl refl in
    zeros ∙ ap (λ (m : ℕ). replicate m 0) (sym (ap (λ (s : List ℕ). length s) zeros ∙ length-replicate {A = ℕ} n 0))

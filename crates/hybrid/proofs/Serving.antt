-- Which of the receipts that are kept the device serves.
use Rattle.std.proofs.Common.{◌≡◌, inl, inr, ℕ, ◌-◌, ◌<◌, Some, None, length, sym, ap, ◌∙◌, arith}
use Rattle.std.specs.Prelude.{slice_index_or}
use Rattle.std.proofs.lemmas.List.{get_or-set_same, get_or-set_other}
use Rattle.std.proofs.lemmas.Bool.{cases_eq}
use Rattle.hybrid.specs.HybridLog.{HybridLog, IsHybridLog, Kept, receipt_of, with_dropped, with_receipt}
use Rattle.hybrid.specs.Reserving.{AreNewServed}
use Rattle.hybrid.proofs.Logs.{some_is}

-- an entry is kept for the oldest resident page
pub first-kept : (p : HybridLog) → IsHybridLog p → p.resident.oldest - p.oldest < length p.kept
first-kept p is = omega (arith, is.numbered, is.live, is.tail)

pub new-none : {D R : Type 0} (serves : D → R → Type 0) (view : R → Kept) (p : HybridLog) (device : D) → AreNewServed serves view p p device
new-none serves view p device number r e = inl e

-- one receipt is kept that the device has given
pub new-one : {D R : Type 0} (serves : D → R → Type 0) (view : R → Kept) (old new : HybridLog) (device : D) (number u : ℕ) (given : R) → new ≡ record (with_receipt old number (view given)) { unreleased = u } → number - old.oldest < length old.kept
    → ((r : R) → view given ≡ view r → serves device r) → AreNewServed serves view old new device
new-one serves view old new device number u given is inside served n r e =
    let there : receipt_of (record (with_receipt old number (view given)) { unreleased = u }) n ≡ Some (view r) = sym (ap (λ (q : HybridLog). receipt_of q n) is) ∙ e in
    elim (cases_eq (n - old.oldest) (number - old.oldest)) [
      | inl same ↦
          let here : receipt_of (record (with_receipt old number (view given)) { unreleased = u }) n ≡ Some (view given) =
          ap (λ (i : ℕ). slice_index_or (with_receipt old number (view given)).kept i None) same ∙ get_or-set_same old.kept (number - old.oldest) (Some (view given)) None inside in
          inr (served r (some_is (view given) (view r) (sym here ∙ there)))
      | inr apart ↦ inl (sym (get_or-set_other old.kept (number - old.oldest) (n - old.oldest) (Some (view given)) None apart) ∙ there)
    ]

-- one page more leaves its frame
pub new-step : {D R : Type 0} (serves : D → R → Type 0) (view : R → Kept) (old now mid next : HybridLog) (before after : D) → AreNewServed serves view old now before → ((r : R) → serves before r → serves after r)
    → AreNewServed serves view now mid after → next ≡ with_dropped mid → AreNewServed serves view old next after
new-step serves view old now mid next before after so_far still new dropped n r e = elim (new n r (sym (ap (λ (q : HybridLog). receipt_of q n) dropped) ∙ e)) [
  | inl was ↦ elim (so_far n r was) [ inl kept ↦ inl kept | inr served ↦ inr (still r served) ]
  | inr served ↦ inr served
]

-- the log stays, and the device still serves what it did
pub new-still : {D R : Type 0} (serves : D → R → Type 0) (view : R → Kept) (old now new : HybridLog) (before after : D) → AreNewServed serves view old now before → ((r : R) → serves before r → serves after r) → new ≡ now → AreNewServed serves view old new after
new-still serves view old now new before after so_far still same n r e = elim (so_far n r (sym (ap (λ (q : HybridLog). receipt_of q n) same) ∙ e)) [
  | inl kept ↦ inl kept
  | inr served ↦ inr (still r served)
]

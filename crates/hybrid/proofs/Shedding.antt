-- What is kept of the pages that leave their frames.
use Rattle.std.proofs.Common.{◌≡◌, ℕ, suc, ◌<◌, ◌≤◌, List, inl, inr, sym, subst, ◌∙◌}
use Rattle.frames.specs.Resident.{first_mutable, next_number}
use Rattle.hybrid.specs.declared.stripe.TheConstants.{LAST_PAGE}
use Rattle.hybrid.specs.HybridLog.{HybridLog, Kept, with_dropped}
use Rattle.hybrid.specs.Reserving.{IsFlushed}
use Rattle.hybrid.specs.Shedding.{HasShed, IsFlushedBy}

-- what the device wrote is left out
pub flushed-by : {D R : Type 0} (wrote : D → List ℕ → R → D → Type 0) (view : R → Kept) (old new : HybridLog) (before after : D) → IsFlushedBy wrote view old before new after → IsFlushed old new
flushed-by wrote view old new before after by = record {
  how = elim by.how [
    | inl had ↦ inl had.1
    | inr written ↦ inr (view written.0, written.1, written.4)
  ];
}

pub shed-more : {D R : Type 0} (wrote : D → List ℕ → R → D → Type 0) (view : R → Kept) (first old mid new : HybridLog) (begin before after : D)
    → HasShed wrote view first begin old before → old.resident.oldest < first_mutable old.resident → next_number old.resident ≤ LAST_PAGE → IsFlushedBy wrote view old before mid after
    → new ≡ with_dropped mid → HasShed wrote view first begin new after
shed-more wrote view first old mid new begin before after shed low numbers flushed dropped = record {
  count = suc shed.count;
  all = (old, before, shed.all, record { read_only = low; numbers = numbers; mid = mid; flushed = flushed; dropped = dropped });
}

pub shed-full : {D R : Type 0} (wrote : D → List ℕ → R → D → Type 0) (view : R → Kept) (first old new : HybridLog) (begin before after : D) (a b c : ℕ)
    → HasShed wrote view first begin old before → new ≡ old → b ≡ a → (c ≡ b → after ≡ before)
    → c ≡ a → HasShed wrote view first begin new after
shed-full wrote view first old new begin before after a b c shed same still device is =
    subst (λ (q : HybridLog). HasShed wrote view first begin q after) (sym same)
    (subst (λ d. HasShed wrote view first begin old d) (sym (device (is ∙ sym still))) shed)

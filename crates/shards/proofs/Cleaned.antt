-- The cleaner's step, by what its parts came to.
use Rattle.std.proofs.Common.{◌≡◌, ◌∙◌, ◌≤◌, ◌<◌, ℕ, inl, List, None, Some, refl, sym, ap, subst}
use Rattle.std.specs.Prelude.{⊤}
use Rattle.words.specs.declared.reply.Fault.{Fault}
use Rattle.words.specs.declared.reply.Fault.TheVariants as fault
use Rattle.hybrid.specs.HybridLog.{HybridLog, Kept}
use Rattle.hybrid.specs.Reading.{HasRead, ReadingLaws, unread}
use Rattle.hybrid.specs.Staging.{IsMissing, StagedPage}
use Rattle.hybrid.specs.Weighing.{MatchWeighed}
use Rattle.hybrid.specs.declared.stripe.TheConstants.{CLEAN_WEIGHT}
use Rattle.hybrid.specs.declared.stripe.clean.Weighed.{Weighed}
use Rattle.hybrid.specs.declared.stripe.clean.Weighed.TheVariants as weighed
use Rattle.shards.specs.Cleaning.{IsFetched, MatchFault, SameWaiting}
use Rattle.shards.specs.Counted.{Counted, HasUnlinked, MatchCleaning}
use Rattle.shards.specs.declared.counted.Cleaning.{Cleaning}
use Rattle.shards.specs.declared.counted.Cleaning.TheVariants as cleaning

-- by more that is so of each fault
pub fault_more : (f : Fault) (M D N E : Type 0) → (M → N) → (D → E) → MatchFault f M D ⊥ → MatchFault f N E ⊥
fault_more fault.OutOfMemory M D N E memory device is = memory is
fault_more fault.DeviceFault M D N E memory device is = device is
fault_more fault.StoreFull M D N E memory device is = absurd is
fault_more fault.CommitsWornOut M D N E memory device is = absurd is

-- what was weighed, where no page was wanted
pub weighed_by : (w : Weighed) (C X : ℕ → Type 0) (L S : Type 0) → ((n : ℕ) → w ≡ weighed.Cold n → ⊥) → MatchWeighed w (λ weight. weight ≤ CLEAN_WEIGHT) (λ n. ⊤) ⊤
    → MatchWeighed w (λ weight. L) X S → MatchWeighed w (λ weight. (weight ≤ CLEAN_WEIGHT) × L) C S
weighed_by (weighed.Live weight) C X L S never most resident = (most, resident)
weighed_by (weighed.Cold n) C X L S never most resident = absurd (never n refl)
weighed_by weighed.Resident C X L S never most resident = resident

-- what the step at the oldest page came to, where no page was wanted
pub cleaned_by : (came : Cleaning) (A A2 U S S2 : Type 0) (H H2 C X : ℕ → Type 0) → ((n : ℕ) → came ≡ cleaning.Cold n → ⊥) → (A → A2) → ((w : ℕ) → U → H w → H2 w) → (U → S → S2)
    → MatchCleaning came A (λ n. ⊤) (λ w. ⊤) ⊤ → MatchCleaning came ⊤ (λ n. U) (λ w. U) U → MatchCleaning came ⊤ (λ n. ⊤) H ⊤ → MatchCleaning came ⊤ X X S → MatchCleaning came A2 C H2 S2
cleaned_by cleaning.Unlinked A A2 U S S2 H H2 C X never more heavier stays unlinked same heavy resident = more unlinked
cleaned_by (cleaning.Cold n) A A2 U S S2 H H2 C X never more heavier stays unlinked same heavy resident = absurd (never n refl)
cleaned_by (cleaning.Heavy w) A A2 U S S2 H H2 C X never more heavier stays unlinked same heavy resident = heavier w same heavy
cleaned_by cleaning.Resident A A2 U S S2 H H2 C X never more heavier stays unlinked same heavy resident = stays same resident

some_same : (a b : Kept) → Some a ≡ Some b → a ≡ b
some_same a b same = cc same

-- where a page was fetched that was missing, less is to be read
pub fetched_less : ReadingLaws → (p : HybridLog) (number : ℕ) (old new : List StagedPage) → IsMissing p old number → IsFetched p number old new
    → unread p new < unread p old
fetched_less laws p number old new missing fetched =
    let same : fetched.kept ≡ missing.kept = some_same fetched.kept missing.kept (sym fetched.has ∙ missing.has) in
    laws.fewer p old new number missing (subst (λ (k : Kept). HasRead k old new) same (record { page = fetched.page; piece = None; is = fetched.staged; more = inl refl }))

-- what is the same waits the same
pub same_waiting : (one two : Counted) → two ≡ one → SameWaiting one two
same_waiting one two same = record {
  in_flight = ap (λ (c : Counted). c.in_flight) same;
  retired = ap (λ (c : Counted). c.retired) same;
  drained = ap (λ (c : Counted). c.drained) same;
  refused = ap (λ (c : Counted). c.refused) same;
  worn = ap (λ (c : Counted). c.worn) same;
}

-- what waits but for the unlinked receipts is the same, whatever the step at the oldest page came to
pub waiting_by : (came : Cleaning) (old new : Counted) (weight : ℕ) → MatchCleaning came (HasUnlinked old new weight) (λ n. ⊤) (λ w. ⊤) ⊤ → MatchCleaning came ⊤ (λ n. new ≡ old) (λ w. new ≡ old) (new ≡ old)
    → SameWaiting old new
waiting_by cleaning.Unlinked old new weight has same = record {
  in_flight = ap (λ (c : Counted). c.in_flight) has.is;
  retired = ap (λ (c : Counted). c.retired) has.is;
  drained = ap (λ (c : Counted). c.drained) has.is;
  refused = ap (λ (c : Counted). c.refused) has.is;
  worn = ap (λ (c : Counted). c.worn) has.is;
}
waiting_by (cleaning.Cold n) old new weight has same = same_waiting old new same
waiting_by (cleaning.Heavy w) old new weight has same = same_waiting old new same
waiting_by cleaning.Resident old new weight has same = same_waiting old new same

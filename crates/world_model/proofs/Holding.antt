-- Who holds which stripes, where one holder changes; and tests that hold.
use Rattle.std.proofs.Common.{◌≡◌, ◌≢◌, ◌⊎◌, ℕ, zero, suc, Bool, true, false, ◌&&◌, not, List, [], ◌∷◌, get_or, set, Option, Some, None, refl, sym, ap, ap₂, ◌∙◌, inl, inr, if◌then◌else◌, nat_eq, Decides, is_none}
use Rattle.std.proofs.lemmas.Bool.Decides.{Decides-eqb}
use Rattle.world_model.specs.Enabled.{is_number, holds, holds_none, first_missing}
use Rattle.world_model.specs.Advancing.{When}

pub when_cases : (t : Bool) (P Q : Type 0) → When t P Q → ((t ≡ true) × P) ⊎ ((t ≡ false) × Q)
when_cases true P Q is = inl (refl, is)
when_cases false P Q is = inr (refl, is)

pub both : (a b : Bool) → (a && b) ≡ true → (a ≡ true) × (b ≡ true)
both true b is = (refl, is)
both false b is = cc

pub not_true : (a : Bool) → not a ≡ true → a ≡ false
not_true true is = cc
not_true false is = refl

pub none_is : {A : Type 0} (o : Option A) → is_none o ≡ true → o ≡ None
none_is None is = refl
none_is (Some x) is = cc

pub apart_eqb : (a b : ℕ) → a ≢ b → nat_eq a b ≡ false
apart_eqb a b differ =
    elim (nat_eq a b) as (λ t. Decides t (a ≡ b) → t ≡ false) [
      | true ↦ λ d. absurd (differ (d.0 refl))
      | false ↦ λ d. refl
    ] (Decides-eqb a b)

pub same_eqb : (a b : ℕ) → nat_eq a b ≡ true → a ≡ b
same_eqb a b is = (Decides-eqb a b).0 is

-- a stripe that is held by one client is held by no other
pub held_by_one : (c d : ℕ) (holder : Option ℕ) → is_number c holder ≡ true → d ≢ c → is_number d holder ≡ false
held_by_one c d None is differ = refl
held_by_one c d (Some m) is differ = apart_eqb m d (λ e. differ (sym e ∙ same_eqb m c is))

-- a client holds none as before, where a stripe that it does not hold gets a holder that it is not
pub holds_none_set : (d : ℕ) (holders : List (Option ℕ)) (i : ℕ) (holder : Option ℕ) → is_number d (get_or holders i None) ≡ false
    → is_number d holder ≡ false → holds_none d (set holders i holder) ≡ holds_none d holders
holds_none_set d [] i holder was is = refl
holds_none_set d (first ∷ holders) zero holder was is = rw (was, is) refl
holds_none_set d (first ∷ holders) (suc i) holder was is =
    ap (λ (t : Bool). not (is_number d first) && t) (holds_none_set d holders i holder was is)

-- what is missing of some stripes goes by what a client holds
pub missing_same : (holders later : List (Option ℕ)) (c : ℕ) (stripes : List ℕ) → ((j : ℕ) → holds later c j ≡ holds holders c j)
    → first_missing later c stripes ≡ first_missing holders c stripes
missing_same holders later c [] same = refl
missing_same holders later c (stripe ∷ stripes) same =
    ap₂ (λ (t : Bool) (o : Option ℕ). if t then o else Some stripe) (same stripe) (missing_same holders later c stripes same)

-- a stripe gets a holder: the client held it not and is not that holder
pub holds_set : (holders : List (Option ℕ)) (i c : ℕ) (holder : Option ℕ) → is_number c (get_or holders i None) ≡ false → is_number c holder ≡ false
    → (j : ℕ) → holds (set holders i holder) c j ≡ holds holders c j
holds_set [] i c holder was is j = refl
holds_set (first ∷ holders) zero c holder was is zero = is ∙ sym was
holds_set (first ∷ holders) zero c holder was is (suc j) = refl
holds_set (first ∷ holders) (suc i) c holder was is zero = refl
holds_set (first ∷ holders) (suc i) c holder was is (suc j) = holds_set holders i c holder was is j

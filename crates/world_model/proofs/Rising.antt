-- Sets of stripes rise, and the next stripe of a call stands in its set.
use Rattle.std.proofs.Common.{◌≡◌, ℕ, ◌<◌, ◌≤◌, Bool, true, false, List, [], ◌∷◌, length, set, Option, Some, None, refl, sym, ap, ◌∙◌, subst, arith, nat_lt, nat_eq, if◌then◌else◌, Decides, mod-lt, eq-eqb}
use Rattle.std.proofs.lemmas.Bool.{ltb-true, ltb-false}
use Rattle.std.proofs.lemmas.Bool.Decides.{Decides-eqb}
use Rattle.std.proofs.lemmas.List.{get_or-set_same}
use Rattle.words.specs.Store.{Bytes}
use Rattle.words.specs.Stripes.{stripe_of}
use Rattle.gates.specs.Sets.{AreAbove, AreBelow, IsRising, inserted}
use Rattle.transact.specs.Plans.{stripes_with}
use Rattle.world_model.specs.Enabled.{is_number, holds, first_missing}

pub stripe_below : (n : ℕ) (key : Bytes) → 1 ≤ n → stripe_of n key < n
unfolding stripe_of
stripe_below n key some = mod-lt _ some

-- A SET WITH ONE STRIPE MORE

-- one that stands in it already is none, for a number is below, the same or above
by_order : (P : List ℕ → Type 0) (n x : ℕ) (xs : List ℕ) → (n < x → P (n ∷ x ∷ xs)) → (n ≡ x → P (x ∷ xs)) → (x < n → P (x ∷ inserted n xs))
    → P (inserted n (x ∷ xs))
by_order P n x xs below same above =
    elim (nat_lt n x) as (λ t. nat_lt n x ≡ t → P (if t then n ∷ x ∷ xs else (if nat_eq n x then x ∷ xs else x ∷ inserted n xs))) [
      | true ↦ λ less. below (ltb-true n x less)
      | false ↦ λ less.
          elim (nat_eq n x) as (λ t. Decides t (n ≡ x) → P (if t then x ∷ xs else x ∷ inserted n xs)) [
            | true ↦ λ is. same (is.0 refl)
            | false ↦ λ is. above (omega (arith, ltb-false n x less, differ is))
          ] (Decides-eqb n x)
    ] refl
  where
    differ : Decides false (n ≡ x) → n ≡ x → ⊥
    differ is e = cc (is.1 e)

inserted_above : (m n : ℕ) (xs : List ℕ) → m < n → AreAbove m xs → AreAbove m (inserted n xs)
inserted_above m n [] less above = (less, tt)
inserted_above m n (x ∷ xs) less above =
    by_order (AreAbove m) n x xs (λ below. (less, above)) (λ same. above) (λ later. (above.0, inserted_above m n xs less above.1))

above_more : (m n : ℕ) (xs : List ℕ) → m < n → AreAbove n xs → AreAbove m xs
above_more m n [] less above = tt
above_more m n (x ∷ xs) less above = (omega (arith, less, above.0), above_more m n xs less above.1)

inserted_rising : (n : ℕ) (xs : List ℕ) → IsRising xs → IsRising (inserted n xs)
inserted_rising n [] rising = (tt, tt)
inserted_rising n (x ∷ xs) rising =
    by_order IsRising n x xs (λ below. ((below, above_more n x xs below rising.0), rising)) (λ same. rising)
    (λ later. (inserted_above x n xs later rising.0, inserted_rising n xs rising.1))

inserted_below : (end n : ℕ) (xs : List ℕ) → n < end → AreBelow end xs → AreBelow end (inserted n xs)
inserted_below end n [] less below = (less, tt)
inserted_below end n (x ∷ xs) less below =
    by_order (AreBelow end) n x xs (λ first. (less, below)) (λ same. below) (λ later. (below.0, inserted_below end n xs less below.1))

-- the stripes of keys rise, and are some of those that there are
pub with_rising : (n : ℕ) (stripes : List ℕ) (keys : List Bytes) → IsRising stripes → IsRising (stripes_with n stripes keys)
with_rising n stripes [] rising = rising
with_rising n stripes (key ∷ keys) rising =
    with_rising n (inserted (stripe_of n key) stripes) keys (inserted_rising (stripe_of n key) stripes rising)

pub with_below : (n : ℕ) (stripes : List ℕ) (keys : List Bytes) → 1 ≤ n → AreBelow n stripes → AreBelow n (stripes_with n stripes keys)
with_below n stripes [] some below = below
with_below n stripes (key ∷ keys) some below =
    with_below n (inserted (stripe_of n key) stripes) keys some (inserted_below n (stripe_of n key) stripes (stripe_below n key some) below)

-- THE NEXT STRIPE

-- P of the next stripe, where P is of each
next_of : (P : List ℕ → ℕ → Type 0) (holders : List (Option ℕ)) (c : ℕ) (stripes : List ℕ) (j : ℕ)
    → ((x : ℕ) (xs : List ℕ) → holds holders c x ≡ false → P (x ∷ xs) x)
    → ((x : ℕ) (xs : List ℕ) → holds holders c x ≡ true → first_missing holders c xs ≡ Some j → P xs j → P (x ∷ xs) j)
    → first_missing holders c stripes ≡ Some j → P stripes j
next_of P holders c [] j here later is = absurd (cc is)
next_of P holders c (x ∷ xs) j here later is =
    elim (holds holders c x) as (λ t. holds holders c x ≡ t → (if t then first_missing holders c xs else Some x) ≡ Some j → P (x ∷ xs) j) [
      | true ↦ λ held next. later x xs held next (next_of P holders c xs j here later next)
      | false ↦ λ free next. subst (P (x ∷ xs)) (some_same next) (here x xs free)
    ] refl is
  where
    some_same : {a b : ℕ} → Option.Some a ≡ Some b → a ≡ b
    some_same same = cc same

-- it is below the bound of the set, above a number that the set is above, and not held
pub next_below : (holders : List (Option ℕ)) (c end : ℕ) (stripes : List ℕ) (j : ℕ) → AreBelow end stripes
    → first_missing holders c stripes ≡ Some j → j < end
next_below holders c end stripes j below is =
    next_of (λ xs k. AreBelow end xs → k < end) holders c stripes j (λ x xs free all. all.0) (λ x xs held next more all. more all.1) is below

pub next_above : (holders : List (Option ℕ)) (c m : ℕ) (stripes : List ℕ) (j : ℕ) → AreAbove m stripes
    → first_missing holders c stripes ≡ Some j → m < j
next_above holders c m stripes j above is =
    next_of (λ xs k. AreAbove m xs → m < k) holders c stripes j (λ x xs free all. all.0) (λ x xs held next more all. more all.1) is above

pub next_free : (holders : List (Option ℕ)) (c : ℕ) (stripes : List ℕ) (j : ℕ) → first_missing holders c stripes ≡ Some j
    → holds holders c j ≡ false
next_free holders c stripes j is =
    next_of (λ xs k. holds holders c k ≡ false) holders c stripes j (λ x xs free. free) (λ x xs held next more. more) is

-- ONE STRIPE TAKEN

-- a client that takes a stripe holds it, and what it held
pub holds_taken : (holders : List (Option ℕ)) (c i : ℕ) → i < length holders → holds (set holders i (Some c)) c i ≡ true
holds_taken holders c i below =
    ap (is_number c) (get_or-set_same holders i (Some c) None below) ∙ eq-eqb c c refl

-- behind the stripe that was taken next, the next one is above it
pub next_later : (holders later : List (Option ℕ)) (c i j : ℕ) (stripes : List ℕ) → ((k : ℕ) → holds holders c k ≡ true → holds later c k ≡ true)
    → holds later c i ≡ true → IsRising stripes → first_missing holders c stripes ≡ Some i → first_missing later c stripes ≡ Some j → i < j
next_later holders later c i j [] kept own rising was is = absurd (cc was)
next_later holders later c i j (x ∷ xs) kept own rising was is =
    elim (holds holders c x) as (λ t. holds holders c x ≡ t → (if t then first_missing holders c xs else Some x) ≡ Some i → i < j) [
      | true ↦ λ held next. next_later holders later c i j xs kept own rising.1 next (skip x (kept x held) is)
      | false ↦ λ free next.
          let same : x ≡ i = some_same next in
          next_above later c i xs j (subst (λ (m : ℕ). AreAbove m xs) same rising.0) (skip x (subst (λ (k : ℕ). holds later c k ≡ true) (sym same) own) is)
    ] refl was
  where
    some_same : {a b : ℕ} → Option.Some a ≡ Some b → a ≡ b
    some_same same = cc same

    skip : (y : ℕ) → holds later c y ≡ true → first_missing later c (y ∷ xs) ≡ Some j → first_missing later c xs ≡ Some j
    skip y held next = sym (ap (λ (t : Bool). if t then first_missing later c xs else Some y) held) ∙ next

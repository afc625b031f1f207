-- The list of the places of a file that are free.
use Rattle.std.proofs.Common.{◌≡◌, ◌≢◌, ℕ, zero, suc, ◌+◌, ◌<◌, ◌≤◌, Bool, cond, nat_eq, List, [], ◌∷◌, ◌++◌, length, get_or, set, slice_get, Option, None, Some, sym, refl, ap, ◌∙◌, arith, eq-eqb, ne_eqb, length-set}
use Rattle.std.proofs.lemmas.List.Sums.{sum_by_push, sum_by-set, count_by-le-length}
use Rattle.std.proofs.lemmas.Option.{slice_get_within, slice_get-get_or, get_or_from_slice_get}
use mathlib.Core.Logic.{dite}
use native.Mathlib.Decide.{ℕ_discrete}
use Rattle.device.specs.declared.places.Place.{Place}
use Rattle.device.specs.declared.places.Place.TheVariants.{Taken, Free}
use Rattle.device.specs.Free.{times, spare, is_free, free_places}

-- one element of a list is changed
pub get_set : {X : Type 0} (xs : List X) (i : ℕ) (x : X) → i < length xs → slice_get (set xs i x) i ≡ Some x
get_set [] i x lt = absurd (omega arith)
get_set (y ∷ ys) zero x lt = refl
get_set (y ∷ ys) (suc i) x lt = get_set ys i x (omega arith)

pub get_set_other : {X : Type 0} (xs : List X) (i j : ℕ) (x : X) → j ≢ i → slice_get (set xs i x) j ≡ slice_get xs j
get_set_other [] i j x ne = refl
get_set_other (y ∷ ys) zero zero x ne = absurd (ne refl)
get_set_other (y ∷ ys) zero (suc j) x ne = refl
get_set_other (y ∷ ys) (suc i) zero x ne = refl
get_set_other (y ∷ ys) (suc i) (suc j) x ne = get_set_other ys i j x (λ e. ne (ap suc e))

-- one element is put behind a list
pub get_grown : {X : Type 0} (xs : List X) (i : ℕ) (x : X) → i ≡ length xs → slice_get (xs ++ x ∷ []) i ≡ Some x
get_grown [] zero x is = refl
get_grown [] (suc i) x is = absurd (omega arith)
get_grown (y ∷ ys) zero x is = absurd (omega arith)
get_grown (y ∷ ys) (suc i) x is = get_grown ys i x (omega arith)

pub get_grown_other : {X : Type 0} (xs : List X) (i : ℕ) (x : X) → i ≢ length xs → slice_get (xs ++ x ∷ []) i ≡ slice_get xs i
get_grown_other [] zero x ne = absurd (ne refl)
get_grown_other [] (suc i) x ne = refl
get_grown_other (y ∷ ys) zero x ne = refl
get_grown_other (y ∷ ys) (suc i) x ne = get_grown_other ys i x (λ e. ne (ap suc e))

-- a taken place is not spare
taken_not_spare : (places : List Place) (place : ℕ) → spare (slice_get (set places place Taken) place) ≡ 0
taken_not_spare [] place = refl
taken_not_spare (x ∷ xs) zero = refl
taken_not_spare (x ∷ xs) (suc place) = taken_not_spare xs place

spare_once : (o : Option Place) → spare o ≤ 1
spare_once None = omega arith
spare_once (Some Taken) = omega arith
spare_once (Some Free) = omega arith

free_if_spare : (o : Option Place) → 1 ≤ spare o → o ≡ Some Free
free_if_spare None one = absurd (omega arith)
free_if_spare (Some Taken) one = absurd (omega arith)
free_if_spare (Some Free) one = refl

taken_if_not_spare : (x : Place) → spare (Some x) ≡ 0 → x ≡ Taken
taken_if_not_spare Taken none = refl
taken_if_not_spare Free none = absurd (omega arith)

-- one for the number that is put behind a list
here : (place p : ℕ) → p ≡ place → ◌≡◌ {A = ℕ} (cond (nat_eq place p) 1 0) 1
here place p same = ap (λ (b : Bool). cond b 1 0) (eq-eqb place p (sym same))

elsewhere : (place p : ℕ) → p ≢ place → ◌≡◌ {A = ℕ} (cond (nat_eq place p) 1 0) 0
elsewhere place p other = ap (λ (b : Bool). cond b 1 0) (ne_eqb place p (λ e. other (sym e)))

behind : (p : ℕ) (free : List ℕ) (place : ℕ) → times p (free ++ place ∷ []) ≡ times p free + cond (nat_eq place p) 1 0
behind p free place = sum_by_push (λ n. cond (nat_eq n p) 1 0) free place

-- a place is given back
pub listed-given : (all free : List ℕ) (places : List Place) (place : ℕ) → all ≡ free ++ place ∷ [] → slice_get places place ≡ Some Taken
    → ((p : ℕ) → times p free ≡ spare (slice_get places p)) → (p : ℕ) → times p all ≡ spare (slice_get (set places place Free) p)
listed-given all free places place is there listed p = dite (ℕ_discrete p place)
    (λ same.
    let later : spare (slice_get (set places place Free) p) ≡ 1 =
    ap (λ (k : ℕ). spare (slice_get (set places place Free) k)) same ∙ ap spare (get_set places place Free (slice_get_within places place Taken there)) in
    let before : times p free ≡ 0 = listed p ∙ ap (λ (k : ℕ). spare (slice_get places k)) same ∙ ap spare there in
    omega (arith, later, before, ap (times p) is, here place p same, behind p free place))
    (λ other.
    let later : spare (slice_get (set places place Free) p) ≡ spare (slice_get places p) = ap spare (get_set_other places place p Free other) in
    omega (arith, later, ap (times p) is, listed p, elsewhere place p other, behind p free place))

-- the last place of the list is taken
pub listed-taken : (all free : List ℕ) (places : List Place) (place : ℕ) → all ≡ free ++ place ∷ []
    → ((p : ℕ) → times p all ≡ spare (slice_get places p)) → (p : ℕ) → times p free ≡ spare (slice_get (set places place Taken) p)
listed-taken all free places place is listed p = dite (ℕ_discrete p place)
    (λ same.
    let later : spare (slice_get (set places place Taken) p) ≡ 0 =
    ap (λ (k : ℕ). spare (slice_get (set places place Taken) k)) same ∙ taken_not_spare places place in
    omega (arith, later, ap (times p) is, listed p, spare_once (slice_get places p), here place p same, behind p free place))
    (λ other.
    let later : spare (slice_get (set places place Taken) p) ≡ spare (slice_get places p) = ap spare (get_set_other places place p Taken other) in
    omega (arith, later, ap (times p) is, listed p, elsewhere place p other, behind p free place))

-- that place was free
pub last-is_free : (all free : List ℕ) (places : List Place) (place : ℕ) → all ≡ free ++ place ∷ []
    → ((p : ℕ) → times p all ≡ spare (slice_get places p)) → slice_get places place ≡ Some Free
last-is_free all free places place is listed =
    free_if_spare (slice_get places place) (omega (arith, ap (times place) is, listed place, here place place refl, behind place free place))

-- a taken place is added behind all others
pub spare-grown : (places : List Place) (p : ℕ) → spare (slice_get (places ++ Taken ∷ []) p) ≡ spare (slice_get places p)
spare-grown [] zero = refl
spare-grown [] (suc p) = refl
spare-grown (x ∷ xs) zero = refl
spare-grown (x ∷ xs) (suc p) = spare-grown xs p

pub free_places-grown : (places : List Place) → free_places (places ++ Taken ∷ []) ≡ free_places places
free_places-grown places = omega (arith, sum_by_push (λ x. cond (is_free x) 1 0) places Taken)

-- where none is listed, all are taken
pub all-taken : (all : List ℕ) (places : List Place) → length all ≡ 0 → ((p : ℕ) → times p all ≡ spare (slice_get places p))
    → (p : ℕ) → p < length places → slice_get places p ≡ Some Taken
all-taken [] places none listed p within =
    let is = slice_get-get_or places p Taken within in is ∙ ap (λ (x : Place). Some x) (taken_if_not_spare (get_or places p Taken) (sym (ap spare is) ∙ sym (listed p)))
all-taken (x ∷ xs) places none listed p within = absurd (omega arith)

-- how many places are free, after a change of one of them
module _ (places : List Place) (place : ℕ) where
  changed : (was is : Place) → slice_get places place ≡ Some was
      → free_places (set places place is) + cond (is_free was) 1 0 ≡ free_places places + cond (is_free is) 1 0
  changed was is there =
      let read : ◌≡◌ {A = ℕ} (cond (is_free (get_or places place was)) 1 0) (cond (is_free was) 1 0) =
      ap (λ (x : Place). cond (is_free x) 1 0) (get_or_from_slice_get places place was was there) in
      omega (arith, read, sum_by-set (λ x. cond (is_free x) 1 0) places place is was (slice_get_within places place was there))

  pub free_places-given : slice_get places place ≡ Some Taken → free_places (set places place Free) ≡ free_places places + 1
  free_places-given there = omega (arith, changed Taken Free there)

  pub free_places-taken : slice_get places place ≡ Some Free → free_places (set places place Taken) + 1 ≡ free_places places
  free_places-taken there = omega (arith, changed Free Taken there)

  -- where a place is taken, not all are free
  pub free_places-few : slice_get places place ≡ Some Taken → free_places places < length places
  free_places-few there = omega (arith, free_places-given there, count_by-le-length is_free (set places place Free), length-set places place Free)

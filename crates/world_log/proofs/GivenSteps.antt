-- Receipts that the device gave.
use Rattle.std.proofs.Common.{◌≡◌, ◌≢◌, ℕ, zero, suc, ◌+◌, ◌-◌, Bool, true, false, List, [], ◌∷◌, ◌++◌, map, get_or, set, Option, Some, None, refl, sym, ap, ◌∙◌, arith, inl, inr, if◌then◌else◌, nat_lt}
use Rattle.std.specs.Prelude.{slice_get, slice_index_or}
use Rattle.std.proofs.lemmas.Bool.{cases_eq}
use Rattle.words.specs.Store.{Bytes}
use Rattle.hybrid.specs.HybridLog.{HybridLog, Kept}
use Rattle.world_model.specs.Logs.{place_at}
use Rattle.world_model.specs.Places.{standing, stands}
use Rattle.world_log.specs.Places.{Receipt, Shelf, Shelves, SamePlaces, Serves, page_released, places_of, with_shelf, with_shown}
use Rattle.world_log.specs.Beside.{Beside, log_state, place_kept}
use Rattle.world_log.specs.Cleaning.{AreServed}
use Rattle.world_log.specs.Given.{IsGiven, AreGivenKept, NoneKeptReleased, StaysGiven}
use Rattle.world_log.proofs.Agreeing.{kept_read}

map_get : (shelves : List Shelf) (i : ℕ) (shelf : Shelf) → slice_get shelves i ≡ Some shelf → slice_get (map page_released shelves) i ≡ Some (page_released shelf)
map_get [] i shelf is = absurd (cc is)
map_get (one ∷ shelves) zero shelf is = ap (λ (o : Option Shelf). page_of o) is
  where
    page_of : Option Shelf → Option (Option Bytes)
    page_of None = None
    page_of (Some s) = Some (page_released s)
map_get (one ∷ shelves) (suc i) shelf is = map_get shelves i shelf is

not_released : (shelf : Shelf) → stands (Some (page_released shelf)) ≡ 1 → shelf.released ≡ false
not_released shelf is = by_test shelf.released refl
  where
    by_test : (t : Bool) → shelf.released ≡ t → t ≡ false
    by_test true e =
        let none : stands (Some (page_released shelf)) ≡ 0 = ap (λ (t : Bool). stands (Some (if t then Some shelf.page else None))) e in
        absurd (omega (arith, none, is))
    by_test false e = refl

shelf_is : (shelf : Shelf) (page : Bytes) (released : Bool) → shelf.released ≡ released → shelf.page ≡ page → shelf ≡ record { page = page; released = released }
shelf_is shelf page released shut same = λ i. record { page = same i; released = shut i }

pub served_given : (device : Shelves) (receipt : Receipt) → IsGiven device receipt → standing (places_of device) receipt.place ≡ 1 → Serves device receipt
served_given device receipt given is =
    let shut : given.shelf.released ≡ false =
    not_released given.shelf (sym (ap stands (map_get device.shelves receipt.place given.shelf given.there)) ∙ is) in
    given.there ∙ ap (λ (s : Shelf). Some s) (shelf_is given.shelf receipt.page receipt.released (shut ∙ sym given.fresh) (given.shows shut))

-- a receipt that is kept at a place of the list is that of a page
page_of_place : (p : HybridLog) (beside : Beside) (i : ℕ) (one : Kept) → slice_index_or p.kept i None ≡ Some one
    → place_at (log_state p beside) (p.oldest + i) ≡ Some (get_or one.identity 0 0)
page_of_place p beside i one is =
    let low : nat_lt (p.oldest + i) p.oldest ≡ false = grind arith in
    let at : p.oldest + i - p.oldest ≡ i = omega arith in
    ap (λ (t : Bool). if t then None else get_or (map place_kept p.kept) (p.oldest + i - p.oldest) None) low
    ∙ ap (λ (k : ℕ). get_or (map place_kept p.kept) k None) at ∙ kept_read p.kept i ∙ ap place_kept is

pub served_kept : (p : HybridLog) (beside : Beside) (device : Shelves) → AreGivenKept p device → NoneKeptReleased p beside device → AreServed p device
served_kept p beside device given none i one is =
    let g = given i one is in
    record {
      shelf = served_given device (record { place = get_or one.identity 0 0; page = one.shown; released = false }) g.given
          (none (p.oldest + i) (get_or one.identity 0 0) (page_of_place p beside i one is));
      identity = g.identity;
    }

get_more : {X : Type 0} (xs ys : List X) (i : ℕ) (x : X) → slice_get xs i ≡ Some x → slice_get (xs ++ ys) i ≡ Some x
get_more [] ys i x is = absurd (cc is)
get_more (y ∷ xs) ys zero x is = is
get_more (y ∷ xs) ys (suc i) x is = get_more xs ys i x is

pub given_written : (device : Shelves) (receipt : Receipt) (page : Bytes) → IsGiven device receipt → IsGiven (with_shelf device page) receipt
given_written device receipt page given = record {
  shelf = given.shelf;
  there = get_more device.shelves _ receipt.place given.shelf given.there;
  shows = given.shows;
  fresh = given.fresh;
}

pub get_set : {X : Type 0} (xs : List X) (i : ℕ) (x y : X) → slice_get xs i ≡ Some y → slice_get (set xs i x) i ≡ Some x
get_set [] i x y is = absurd (cc is)
get_set (z ∷ xs) zero x y is = refl
get_set (z ∷ xs) (suc i) x y is = get_set xs i x y is

pub get_other : {X : Type 0} (xs : List X) (i j : ℕ) (x : X) → j ≢ i → slice_get (set xs i x) j ≡ slice_get xs j
get_other [] i j x other = refl
get_other (y ∷ xs) zero zero x other = absurd (other refl)
get_other (y ∷ xs) zero (suc j) x other = refl
get_other (y ∷ xs) (suc i) zero x other = refl
get_other (y ∷ xs) (suc i) (suc j) x other = get_other xs i j x (λ e. other (ap suc e))

pub given_released : (device : Shelves) (receipt : Receipt) (place : ℕ) (page : Bytes) → IsGiven device receipt → IsGiven (with_shown device place page) receipt
given_released device receipt place page given = elim (cases_eq receipt.place place) [
  | inl same ↦ record {
    shelf = record { page = page; released = true };
    there = ap (λ (k : ℕ). slice_get (set device.shelves k (let s : Shelf = record { page = page; released = true } in s)) receipt.place) (sym same)
        ∙ get_set device.shelves receipt.place _ given.shelf given.there;
    shows = λ shut. absurd (cc shut);
    fresh = given.fresh;
  }
  | inr other ↦ record {
    shelf = given.shelf;
    there = get_other device.shelves place receipt.place _ other ∙ given.there;
    shows = given.shows;
    fresh = given.fresh;
  }
]

-- over the same places
pub given_places : (old new : Shelves) → SamePlaces old new → StaysGiven old new
given_places old new same receipt given = record {
  shelf = given.shelf;
  there = ap (λ (l : List Shelf). slice_get l receipt.place) same ∙ given.there;
  shows = given.shows;
  fresh = given.fresh;
}

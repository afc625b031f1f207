-- How a stripe's value changes when a receipt is kept for a resident page.
use Rattle.std.proofs.Common.{◌≡◌, ℕ, zero, suc, ◌+◌, ◌-◌, ◌<◌, ◌≤◌, inl, inr, List, [], ◌∷◌, ◌++◌, length, take, map, set, slice_index, Option, Some, None, refl, sym, ap, ◌∙◌, subst, arith, length-set}
use Rattle.std.specs.Prelude.{slice_index_or, IsSome, option_map}
use Rattle.std.specs.Option.{is_some}
use Rattle.std.proofs.Common.{false}
use Rattle.std.proofs.Math.ListN.{get_or-map}
use Rattle.std.specs.List.{All}
use Rattle.std.proofs.lemmas.List.{get_or-set_same, get_or-set_other}
use Rattle.std.proofs.lemmas.Bool.{cases_eq}
use Rattle.records.specs.Records.{Stored}
use Rattle.frames.specs.Resident.{page_of, first_mutable}
use Rattle.hybrid.specs.Log.{Log, log_from, AllLaid, IsLinked, Joins, begin_of, IsShort}
use Rattle.hybrid.specs.HybridLog.{HybridLog, Kept, IsHybridLog, pages_of, log_of, shown_page, cold, count_kept, bucket_of, receipt_of, with_receipt}
use Rattle.hybrid.proofs.Logs.{some_is}

take-set : (c i : ℕ) (l : List (Option Kept)) (v : Option Kept) → c ≤ i → take c (set l i v) ≡ take c l
take-set zero i l v le = refl
take-set (suc c) i [] v le = refl
take-set (suc c) zero (x ∷ l) v le = absurd (omega arith)
take-set (suc c) (suc i) (x ∷ l) v le = ap (λ (m : List (Option Kept)). x ∷ m) (take-set c i l v (omega arith))

-- one receipt more
pub count-more : (l : List (Option Kept)) (i : ℕ) (k : Kept) → i < length l → slice_index_or l i None ≡ None → count_kept (set l i (Some k)) ≡ count_kept l + 1
count-more [] i k lt e = absurd (omega (arith, lt))
count-more (None ∷ l) zero k lt e = omega arith
count-more (Some x ∷ l) zero k lt e = absurd cc
count-more (None ∷ l) (suc i) k lt e = count-more l i k (omega (arith, lt)) e
count-more (Some x ∷ l) (suc i) k lt e = omega (arith, count-more l i k (omega (arith, lt)) e)

count-set : (l : List (Option Kept)) (i : ℕ) (k : Kept) → count_kept (set l i (Some k)) ≤ count_kept l + 1
count-set [] i k = omega arith
count-set (None ∷ l) zero k = omega arith
count-set (Some x ∷ l) zero k = omega arith
count-set (None ∷ l) (suc i) k = count-set l i k
count-set (Some x ∷ l) (suc i) k = omega (arith, count-set l i k)

map-set : {X : Type 0} (f : Option X → Option Kept) (l : List (Option X)) (i : ℕ) (v : Option X) → map f (set l i v) ≡ set (map f l) i (f v)
map-set f [] i v = refl
map-set f (x ∷ l) zero v = refl
map-set f (x ∷ l) (suc i) v = ap (λ (m : List (Option Kept)). f x ∷ m) (map-set f l i v)

abbrev pub with_kept : HybridLog → ℕ → Kept → ℕ → HybridLog
with_kept p i k u = record p { kept = set p.kept i (Some k); unreleased = u }

pub record IsKept (p new : HybridLog) (i : ℕ) : Type 0 where
  pub part : IsHybridLog new
  pub log : log_of new ≡ log_of p
  pub some : IsSome (slice_index_or new.kept i None)

pub keeps : (p : HybridLog) (i u : ℕ) (k : Kept) → IsHybridLog p → cold p ≤ i → p.oldest + i < first_mutable p.resident → k.shown ≡ page_of p.resident (p.oldest + i) → count_kept p.kept + 1 ≤ u → u ≤ p.places → IsKept p (with_kept p i k u) i
keeps p i u k is from below shown counts limit =
    let inside : i < length p.kept = omega (arith, is.numbered, below, is.tail) in
    let pages : pages_of (with_kept p i k u) ≡ pages_of p = ap (λ (l : List (Option Kept)). map shown_page l ++ p.resident.pages) (take-set (cold p) i p.kept (Some k) from) in
    let log : log_of (with_kept p i k u) ≡ log_of p = ap (log_from p.oldest) pages in
    let here_is : slice_index_or (set p.kept i (Some k)) i None ≡ Some k = get_or-set_same p.kept i (Some k) None inside in
    record {
      part = record {
        numbered = omega (arith, is.numbered, length-set p.kept i (Some k));
        live = is.live;
        tail = is.tail;
        enough = is.enough;
        fits = is.fits;
        shared = is.shared;
        buckets = is.buckets;
        laid = subst (AllLaid p.oldest) (sym pages) is.laid;
        linked = subst (IsLinked (bucket_of p) (begin_of p.oldest)) (sym log) is.linked;
        joined = λ b within. subst (λ (l : Log). Joins (bucket_of p) (begin_of p.oldest) (slice_index p.heads b) l b) (sym log) (is.joined b within);
        cold_kept = λ j low. subst (λ (o : Option Kept). IsSome o) (sym (get_or-set_other p.kept i j (Some k) None (omega arith))) (is.cold_kept j low);
        shows = λ j x high h. elim (cases_eq j i) [
          | inl e ↦
              let it : k ≡ x = some_is k x (sym here_is ∙ ap (λ (n : ℕ). slice_index_or (set p.kept i (Some k)) n None) (sym e) ∙ h) in
              (ap (λ (y : Kept). y.shown) (sym it) ∙ shown ∙ ap (λ (n : ℕ). page_of p.resident (p.oldest + n)) (sym e), omega arith)
          | inr other ↦ is.shows j x high (sym (get_or-set_other p.kept i j (Some k) None other) ∙ h)
        ];
        counted = omega (arith, count-set p.kept i k);
        few = is.few;
        short = subst (All (λ (e : ℕ × Stored). IsShort e.1)) (sym log) is.short;
        limited = limit;
      };
      log = log;
      some = subst (λ (o : Option Kept). IsSome o) (sym here_is) refl;
    }

-- the same from the stripe's fields
pub keeps-from : {X : Type 0} (f : X → Kept) (items : List (Option X)) (v now : HybridLog) (number u : ℕ) (x : X) → v ≡ now → IsHybridLog v → v.kept ≡ map (option_map f) items → v.resident.oldest ≤ number → number < first_mutable now.resident → (f x).shown ≡ page_of v.resident number → count_kept v.kept + 1 ≤ u → u ≤ v.places
    → IsKept v (record v { kept = map (option_map f) (set items (number - v.oldest) (Some x)); unreleased = u }) (number - v.oldest)
keeps-from f items v now number u x same is e from below shown counts limit =
    let i : ℕ = number - v.oldest in
    let there : v.oldest + (number - v.oldest) ≡ number = omega (arith, is.live, from) in
    let below_v : number < first_mutable v.resident = subst (λ (q : HybridLog). number < first_mutable q.resident) (sym same) below in
    let h = keeps v (number - v.oldest) u (f x) is (omega (arith, is.live, from)) (omega (arith, there, below_v)) (shown ∙ ap (page_of v.resident) (sym there)) counts limit in
    let lists : set v.kept (number - v.oldest) (Some (f x)) ≡ map (option_map f) (set items (number - v.oldest) (Some x)) = ap (λ (l : List (Option Kept)). set l (number - v.oldest) (Some (f x))) e ∙ sym (map-set (option_map f) items (number - v.oldest) (Some x)) in
    subst (λ (l : List (Option Kept)). IsKept v (record v { kept = l; unreleased = u }) (number - v.oldest)) lists h

pub with-from : {X : Type 0} (f : X → Kept) (items : List (Option X)) (v now : HybridLog) (number : ℕ) (x : X) → v ≡ now → v.kept ≡ map (option_map f) items
    → record v { kept = map (option_map f) (set items (number - v.oldest) (Some x)) } ≡ with_receipt now number (f x)
with-from f items v now number x same e =
    ap (λ (l : List (Option Kept)). record v { kept = l }) (map-set (option_map f) items (number - v.oldest) (Some x) ∙ ap (λ (l : List (Option Kept)). set l (number - v.oldest) (Some (f x))) (sym e))
    ∙ ap (λ (q : HybridLog). with_receipt q number (f x)) same

-- and so it is counted
pub counted-from : {X : Type 0} (f : X → Kept) (items : List (Option X)) (v now : HybridLog) (number count : ℕ) (x : X) → v ≡ now → IsHybridLog v → v.kept ≡ map (option_map f) items → v.resident.oldest ≤ number → number < first_mutable now.resident → receipt_of now number ≡ None
    → count ≡ count_kept (map (option_map f) items) → count + 1 ≡ count_kept (map (option_map f) (set items (number - v.oldest) (Some x)))
counted-from f items v now number count x same is e from below none_now counts =
    let none : receipt_of v number ≡ None = subst (λ (q : HybridLog). receipt_of q number ≡ None) (sym same) none_now in
    let below_v : number < first_mutable v.resident = subst (λ (q : HybridLog). number < first_mutable q.resident) (sym same) below in
    let inside : number - v.oldest < length v.kept = omega (arith, is.numbered, is.live, is.tail, from, below_v) in
    let one = count-more v.kept (number - v.oldest) (f x) inside none in
    let lists : set v.kept (number - v.oldest) (Some (f x)) ≡ map (option_map f) (set items (number - v.oldest) (Some x)) = ap (λ (l : List (Option Kept)). set l (number - v.oldest) (Some (f x))) e ∙ sym (map-set (option_map f) items (number - v.oldest) (Some x)) in
    omega (arith, counts, one, ap count_kept lists, ap count_kept e)

none-now : {X : Type 0} (o : Option X) → is_some o ≡ false → o ≡ None
none-now None h = refl
none-now (Some x) h = absurd cc

pub none-at : {X : Type 0} (f : X → Kept) (items : List (Option X)) (i : ℕ) (o : Option X) → o ≡ slice_index_or items i o → is_some o ≡ false → slice_index_or (map (option_map f) items) i None ≡ None
none-at f items i o e h =
    let none : o ≡ None = none-now o h in
    get_or-map (option_map f) items i None ∙ ap (option_map f) (sym (sym none ∙ e ∙ ap (λ d. slice_index_or items i d) none))

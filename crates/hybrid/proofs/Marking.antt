-- How the live records of the oldest page are marked.
use Rattle.std.proofs.Common.{◌≡◌, ℕ, ◌+◌, ◌*◌, ◌/◌, ◌%◌, ◌<◌, ◌≤◌, inl, inr, List, Bool, true, false, Option, Some, None, refl, sym, ap, ◌∙◌, subst, arith}
use Rattle.std.specs.Prelude.{slice_index_or}
use Rattle.std.specs.List.{Contains}
use Rattle.records.specs.Page.{used_end}
use Rattle.records.specs.Records.{Stored, records_of, IsLaidOut}
use Rattle.hybrid.specs.HybridLog.{HybridLog, log_of}
use Rattle.hybrid.specs.Staging.{IsLive, IsDead}
use Rattle.std.proofs.Common.{length, set, cond, ◌++◌, [], ◌∷◌, ◌&&◌, ◌↔◌, add-zero, add_assoc, append_assoc, zero-add}
use Rattle.std.specs.Prelude.{IsTrue, IsSome, option_map}
use Rattle.std.specs.Option.{is_some}
use Rattle.std.proofs.lemmas.Bool.{eq-eqb, ne_eqb}
use Rattle.std.proofs.lemmas.List.Elements.{All-contains}
use Rattle.std.proofs.lemmas.List.{get_or-set_same, get_or-set_other}
use Rattle.records.specs.declared.pages.TheConstants.{PAGE_SIZE, HEADER_SIZE}
use Rattle.records.specs.Records.{size_of, value_bytes, placed, end_from, IsPlaced, IsRecordAt}
use Rattle.hybrid.specs.Log.{newest, page_log, begin_of}
use Rattle.hybrid.specs.HybridLog.{Kept, IsHybridLog, receipt_of, without_oldest_page, bucket_of}
use Rattle.hybrid.specs.Staging.{AreMarked, IsNeeded}
use Rattle.hybrid.specs.Lookups.{Leads}
use Rattle.hybrid.specs.HybridLog.{page_at}
use Rattle.hybrid.specs.Writing.{write_weight}
use Rattle.hybrid.specs.Weighing.{lives, live_weight, stands_at}
use Rattle.hybrid.proofs.Logs.{here}
use Rattle.hybrid.proofs.Logs.{newest-listed}
use Rattle.hybrid.proofs.Chains.{unique}
use Rattle.hybrid.proofs.Parts.{oldest, in-page_log, right}
use Rattle.hybrid.proofs.Cleaning.{IsPlace, IsStep, begins, front, step, listed, weight_at}

-- ---- what the live records before an offset weigh

pub record IsWeighing (p : HybridLog) (page : List ℕ) (at weight : ℕ) : Type 0 where
  pub before : List (ℕ × Stored)
  pub rest : List Stored
  pub whole : records_of page ≡ before ++ placed at rest
  pub end : used_end page ≡ end_from at rest
  pub sum : live_weight (log_of p) p.oldest (records_of page) ≡ weight + live_weight (log_of p) p.oldest (placed at rest)

weighing-start : (p : HybridLog) (page : List ℕ) → IsLaidOut page → IsWeighing p page HEADER_SIZE 0
weighing-start p page laid = record {
  before = [];
  rest = laid.stored;
  whole = laid.records;
  end = laid.used;
  sum = ap (live_weight (log_of p) p.oldest) laid.records ∙ sym (zero-add (live_weight (log_of p) p.oldest (placed HEADER_SIZE laid.stored)));
}

-- one record more
weighing-step : (p : HybridLog) (page : List ℕ) (at weight : ℕ) (r : Stored) → IsStep page at r → IsWeighing p page at weight → IsWeighing p page (at + size_of r) (weight + weight_at p at r)
weighing-step p page at weight r s h = go h.rest h.whole h.end h.sum
  where
    go : (rest : List Stored) → records_of page ≡ h.before ++ placed at rest → used_end page ≡ end_from at rest → live_weight (log_of p) p.oldest (records_of page) ≡ weight + live_weight (log_of p) p.oldest (placed at rest)
        → IsWeighing p page (at + size_of r) (weight + weight_at p at r)
    go [] whole end sum = absurd (omega (arith, end, s.within))
    go (x ∷ rest) whole end sum =
        subst (λ (y : Stored). IsWeighing p page (at + size_of y) (weight + weight_at p at y)) (front page at r x h.before rest s whole) (record {
          before = h.before ++ (at, x) ∷ [];
          rest = rest;
          whole = whole ∙ sym (append_assoc h.before ((at, x) ∷ []) (placed (at + size_of x) rest));
          end = end;
          sum = sum ∙ sym (add_assoc weight (weight_at p at x) (live_weight (log_of p) p.oldest (placed (at + size_of x) rest)));
        })

-- and no record is left
pub weighing-all : (p : HybridLog) (page : List ℕ) (at weight : ℕ) → IsWeighing p page at weight → ((r : Stored) → Contains (records_of page) (at, r) → ⊥) → weight ≡ live_weight (log_of p) p.oldest (records_of page)
weighing-all p page at weight h no_more = go h.rest h.whole h.sum
  where
    go : (rest : List Stored) → records_of page ≡ h.before ++ placed at rest → live_weight (log_of p) p.oldest (records_of page) ≡ weight + live_weight (log_of p) p.oldest (placed at rest) → weight ≡ live_weight (log_of p) p.oldest (records_of page)
    go [] whole sum = sym (sum ∙ add-zero weight)
    go (x ∷ rest) whole sum = absurd (no_more x (subst (λ (ps : List (ℕ × Stored)). Contains ps (at, x)) (sym whole) (right h.before (placed at (x ∷ rest)) (at, x) (here (at, x) (placed (at + size_of x) rest)))))

-- ---- which records are live

-- the records before `at` are marked, and the live ones weigh this
pub record IsMarking (p : HybridLog) (page : List ℕ) (live : List Bool) (at weight : ℕ) : Type 0 where
  pub live_are : (o : ℕ) (r : Stored) → Contains (records_of page) (o, r) → o < at → slice_index_or live (o / 8) false ≡ true → IsLive (log_of p) (p.oldest * PAGE_SIZE + o) r
  pub dead_are : (o : ℕ) (r : Stored) → Contains (records_of page) (o, r) → o < at → slice_index_or live (o / 8) false ≡ false → IsDead (log_of p) (p.oldest * PAGE_SIZE + o) r
  pub lives_are : (o : ℕ) (r : Stored) → Contains (records_of page) (o, r) → o < at → slice_index_or live (o / 8) false ≡ lives (log_of p) (p.oldest * PAGE_SIZE + o) r
  pub place : IsPlace (records_of page) (used_end page) at
  pub weighing : IsWeighing p page at weight

-- a record of the oldest page stands in the log
pub stands : (p : HybridLog) (k : Kept) (o : ℕ) (r : Stored) → IsHybridLog p → p.oldest < p.resident.oldest → receipt_of p p.oldest ≡ Some k → Contains (records_of k.shown) (o, r) → Contains (log_of p) (p.oldest * PAGE_SIZE + o, r)
stands p k o r is lt e c = subst (λ l. Contains l (p.oldest * PAGE_SIZE + o, r)) (sym (oldest p k is lt e).log) (right (log_of (without_oldest_page p)) (page_log p.oldest k.shown) (p.oldest * PAGE_SIZE + o, r) (in-page_log p.oldest k.shown o r c))

is-it : (o : Option (ℕ × Stored)) (a : ℕ) → option_map (λ e. e.0) o ≡ Some a → (r : Stored) × (o ≡ Some (a, r))
is-it None a e = absurd cc
is-it (Some x) a e = (x.1, let same : x.0 ≡ a = cc in ap (λ n. Some (n, x.1)) same)

none-is : (v : Option (List ℕ)) → (IsSome v → ⊥) → v ≡ None
none-is None empty = refl
none-is (Some x) empty = absurd (empty refl)

-- a mark is the test
lives-is : (o : Option (ℕ × Stored)) (v : Option (List ℕ)) (found : Option ℕ) (a : ℕ) (b : Bool) → found ≡ option_map (λ e. e.0) o → (IsTrue b ↔ ((found ≡ Some a) × IsSome v)) → b ≡ (is_some v && stands_at a o)
lives-is o None found a true f test = absurd (let bad = (test.0 refl).1 in cc)
lives-is o None found a false f test = refl
lives-is None (Some v) found a true f test = absurd (let bad : None ≡ Some a = sym f ∙ (test.0 refl).0 in cc)
lives-is None (Some v) found a false f test = refl
lives-is (Some e) (Some v) found a true f test =
    let same : Some e.0 ≡ Some a = sym f ∙ (test.0 refl).0 in
    sym (eq-eqb e.0 a cc)
lives-is (Some e) (Some v) found a false f test =
    sym (ne_eqb e.0 a (λ same. let bad : IsTrue false = test.1 (f ∙ ap Some same, refl) in absurd cc))

-- what a mark says of its record
pub mark-is : (p : HybridLog) (k : Kept) (o : ℕ) (r : Stored) (found : Option ℕ) (b : Bool) → IsHybridLog p → p.oldest < p.resident.oldest → receipt_of p p.oldest ≡ Some k → Contains (records_of k.shown) (o, r)
    → found ≡ option_map (λ e. e.0) (newest (log_of p) r.key) → (IsTrue b ↔ ((found ≡ Some (p.oldest * PAGE_SIZE + o)) × IsSome r.value))
    → (b ≡ true → IsLive (log_of p) (p.oldest * PAGE_SIZE + o) r) × (b ≡ false → IsDead (log_of p) (p.oldest * PAGE_SIZE + o) r) × (b ≡ lives (log_of p) (p.oldest * PAGE_SIZE + o) r)
mark-is p k o r found b is lt e c f test = (live_so, dead_so, lives-is (newest (log_of p) r.key) r.value found (p.oldest * PAGE_SIZE + o) b f test)
  where
    a : ℕ
    a = p.oldest * PAGE_SIZE + o

    live_so : b ≡ true → IsLive (log_of p) (p.oldest * PAGE_SIZE + o) r
    live_so t =
        let both = test.0 t in
        let it = is-it (newest (log_of p) r.key) (p.oldest * PAGE_SIZE + o) (sym f ∙ both.0) in
        let same : it.0 ≡ r = unique (bucket_of p) (begin_of p.oldest) (log_of p) (p.oldest * PAGE_SIZE + o) it.0 r is.linked (newest-listed (log_of p) r.key (p.oldest * PAGE_SIZE + o, it.0) it.1) (stands p k o r is lt e c) in
        record { newest = it.1 ∙ ap (λ (x : Stored). Some (p.oldest * PAGE_SIZE + o, x)) same; value = both.1 }

    dead_so : b ≡ false → IsDead (log_of p) (p.oldest * PAGE_SIZE + o) r
    dead_so t h = none-is r.value (λ some. let bad : b ≡ true = test.1 (f ∙ ap (option_map (λ (x : ℕ × Stored). x.0)) h, some) in absurd cc)

-- one more mark
pub marking-step : (p : HybridLog) (page : List ℕ) (live : List Bool) (at weight more : ℕ) (s : Stored) (b : Bool) → IsLaidOut page → IsRecordAt page at → ((r : Stored) → Contains (records_of page) (at, r) → s ≡ r) → length live ≡ PAGE_SIZE / 8
    → (Contains (records_of page) (at, s) → (b ≡ true → IsLive (log_of p) (p.oldest * PAGE_SIZE + at) s) × (b ≡ false → IsDead (log_of p) (p.oldest * PAGE_SIZE + at) s) × (b ≡ lives (log_of p) (p.oldest * PAGE_SIZE + at) s))
    → more ≡ cond b (write_weight s.key s.value) 0 → IsMarking p page live at weight → IsMarking p page (set live (at / 8) b) (at + size_of s) (weight + more)
marking-step p page live at weight more s b laid is found size mark added h =
    let c = listed page at s h.place is.used found in
    let m = mark c in
    let st = step page at s laid c in
    let inside : at / 8 < length live = omega (arith, is.used, is.ends_in_page, size) in
    let here_is : slice_index_or (set live (at / 8) b) (at / 8) false ≡ b = get_or-set_same live (at / 8) b false inside in
    let aligned : (o : ℕ) (r : Stored) → Contains (records_of page) (o, r) → o % 8 ≡ 0 = λ o r d. let q : IsPlaced (used_end page) (o, r) = All-contains (IsPlaced (used_end page)) (records_of page) (o, r) laid.each d in q.aligned in
    let other : (o : ℕ) (r : Stored) → Contains (records_of page) (o, r) → o < at → slice_index_or (set live (at / 8) b) (o / 8) false ≡ slice_index_or live (o / 8) false = λ o r d low.
    get_or-set_other live (at / 8) (o / 8) b false (omega (arith, aligned o r d, is.aligned)) in
    record {
      live_are = λ o r d lt t. elim (st.before o r d lt) [
        | inl low ↦ h.live_are o r d low (sym (other o r d low) ∙ t)
        | inr e ↦ rw (e.0, e.1) (m.0 (sym here_is ∙ ap (λ (n : ℕ). slice_index_or (set live (at / 8) b) (n / 8) false) (sym e.0) ∙ t))
      ];
      dead_are = λ o r d lt t. elim (st.before o r d lt) [
        | inl low ↦ h.dead_are o r d low (sym (other o r d low) ∙ t)
        | inr e ↦ rw (e.0, e.1) (m.1 (sym here_is ∙ ap (λ (n : ℕ). slice_index_or (set live (at / 8) b) (n / 8) false) (sym e.0) ∙ t))
      ];
      lives_are = λ o r d lt. elim (st.before o r d lt) [
        | inl low ↦ other o r d low ∙ h.lives_are o r d low
        | inr e ↦ rw (e.0, e.1) (here_is ∙ m.2)
      ];
      place = st.place;
      weighing = subst (λ (n : ℕ). IsWeighing p page (at + size_of s) (weight + n)) (sym (added ∙ ap (λ (t : Bool). cond t (write_weight s.key s.value) 0) m.2)) (weighing-step p page at weight s st h.weighing);
    }

pub marking-start : (p : HybridLog) (page : List ℕ) (live : List Bool) → IsLaidOut page → IsMarking p page live HEADER_SIZE 0
marking-start p page live laid =
    record {
      live_are = λ o r c lt t. absurd (low o r c lt);
      dead_are = λ o r c lt t. absurd (low o r c lt);
      lives_are = λ o r c lt. absurd (low o r c lt);
      place = begins page laid.stored laid.records laid.used;
      weighing = weighing-start p page laid;
    }
  where
    low : (o : ℕ) (r : Stored) → Contains (records_of page) (o, r) → o < HEADER_SIZE → ⊥
    low o r c lt = let q : IsPlaced (used_end page) (o, r) = All-contains (IsPlaced (used_end page)) (records_of page) (o, r) laid.each c in omega (arith, q.past_header)

pub marking-all : (p : HybridLog) (page : List ℕ) (live : List Bool) (at weight : ℕ) → IsLaidOut page → IsMarking p page live at weight → ((r : Stored) → Contains (records_of page) (at, r) → ⊥) → AreMarked (log_of p) p.oldest (records_of page) live
marking-all p page live at weight laid h no_more = elim h.place [
  | inl end ↦ λ o r c.
      let q : IsPlaced (used_end page) (o, r) = All-contains (IsPlaced (used_end page)) (records_of page) (o, r) laid.each c in
      let lt : o < at = omega (arith, end, q.within) in
      (h.live_are o r c lt, h.dead_are o r c lt, h.lives_are o r c lt)
  | inr more ↦ absurd (no_more more.0 more.1)
]

-- the loop's invariant, by a stripe with an honest device and staged pages that are right
pub record IsMarkLoop (honest : Type 0) (right : Type 0) (p : HybridLog) (page : List ℕ) (live : List Bool) (at weight : ℕ) : Type 0 where
  pub low : HEADER_SIZE ≤ at
  pub high : at ≤ PAGE_SIZE
  pub size : length live ≡ PAGE_SIZE / 8
  pub light : weight + 32 ≤ 2 * at
  pub marked : honest → right → p.oldest < p.resident.oldest → (k : Kept) → receipt_of p p.oldest ≡ Some k → page ≡ k.shown → IsMarking p page live at weight

-- a lookup for a record of the oldest page leads there
pub needed-of : (p : HybridLog) (number : ℕ) (e : ℕ × Stored) → Contains (records_of (page_at p p.oldest)) e → IsSome e.1.value → Leads p e.1.key number → IsNeeded p number
needed-of p number e listed value leads = record { entry = e; listed = listed; value = value; leads = leads }

-- the weight of the marked records stays small
pub light-step : (weight more at : ℕ) (s : Stored) (b : Bool) → more ≡ cond b (write_weight s.key s.value) 0 → length (value_bytes s.value) ≤ s.capacity → weight + 32 ≤ 2 * at → weight + more + 32 ≤ 2 * (at + size_of s)
light-step weight more at s true e fits light = omega (arith, e, fits, light)
light-step weight more at s false e fits light = omega (arith, e, fits, light)

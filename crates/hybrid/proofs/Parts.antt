-- How a stripe's value changes when its oldest page leaves.
use Rattle.std.proofs.Common.{◌≡◌, ℕ, zero, suc, ◌+◌, ◌-◌, ◌*◌, ◌<◌, ◌≤◌, inl, inr, List, [], ◌∷◌, ◌++◌, length, take, drop, map, slice_index, Option, Some, None, refl, sym, ap, ◌∙◌, subst, arith, length-append, add-zero}
use Rattle.std.specs.Prelude.{slice_index_or, IsSome, option_map}
use Rattle.std.specs.List.{Contains, All}
use Rattle.std.proofs.lemmas.List.Elements.{All-contains, Contains-append_cases}
use Rattle.std.proofs.lemmas.List.{length-drop, get_or_default, length-map, length-take-le, get_or_append_left, get_or-append_right, get_or-take}
use Rattle.std.proofs.lemmas.Bool.{cases_lt}
use Rattle.records.specs.declared.pages.TheConstants.{PAGE_SIZE}
use Rattle.records.specs.Page.{used_end, number_of}
use Rattle.records.specs.Records.{Stored, records_of, IsLaidOut, IsPlaced}
use Rattle.hybrid.specs.Log.{Log, log_from, page_log, newest_first, addressed, AllLaid, IsLinked, Joins, begin_of, top, IsShort}
use Rattle.hybrid.specs.HybridLog.{HybridLog, Kept, IsHybridLog, IsCut, pages_of, log_of, shown_page, cold, count_kept, receipt_of, without_oldest_page, bucket_of}
use Rattle.hybrid.proofs.Logs.{cons_cases, here, there}
use Rattle.hybrid.proofs.Chains.{AllLive, linked-raised, Joins-raised, linked_back as linked-back}

-- ---- lists

pub right : {X : Type 0} (xs ys : List X) (y : X) → Contains ys y → Contains (xs ++ ys) y
right [] ys y d = d
right (x ∷ xs) ys y d = there x (xs ++ ys) y (right xs ys y d)

pub left : {X : Type 0} (xs ys : List X) (y : X) → Contains xs y → Contains (xs ++ ys) y
left [] ys y d = absurd (omega (arith, d.1))
left (x ∷ xs) ys y d = elim (cons_cases x xs y d) [ inl e ↦ subst (λ z. Contains (x ∷ (xs ++ ys)) z) e (here x (xs ++ ys)) | inr more ↦ there x (xs ++ ys) y (left xs ys y more) ]

-- ---- the log of pages

pub cons-one : {X : Type 0} (x y : X) → Contains (x ∷ []) y → x ≡ y
cons-one x y c = elim (cons_cases x [] y c) [ inl e ↦ e | inr d ↦ absurd (omega (arith, d.1)) ]

-- the records of a page, newest first, each at its address
in-first : (n : ℕ) (rs : List (ℕ × Stored)) (o : ℕ) (r : Stored) → Contains rs (o, r) → Contains (newest_first n rs) (n * PAGE_SIZE + o, r)
in-first n [] o r c = absurd (omega (arith, c.1))
in-first n (e ∷ rs) o r c = elim (cons_cases e rs (o, r) c) [
  | inl is ↦ right (newest_first n rs) (addressed n e ∷ []) (n * PAGE_SIZE + o, r) (subst (λ (x : ℕ × Stored). Contains (addressed n e ∷ []) (addressed n x)) is (here (addressed n e) []))
  | inr more ↦ left (newest_first n rs) (addressed n e ∷ []) (n * PAGE_SIZE + o, r) (in-first n rs o r more)
]

-- and no other
pub record IsIn (n : ℕ) (rs : List (ℕ × Stored)) (e : ℕ × Stored) : Type 0 where
  pub offset : ℕ
  pub listed : Contains rs (offset, e.1)
  pub address : e.0 ≡ n * PAGE_SIZE + offset

from-first : (n : ℕ) (rs : List (ℕ × Stored)) (e : ℕ × Stored) → Contains (newest_first n rs) e → IsIn n rs e
from-first n [] e c = absurd (omega (arith, c.1))
from-first n (x ∷ rs) e c = elim (Contains-append_cases (newest_first n rs) (addressed n x ∷ []) e c) [
  | inl more ↦ let m = from-first n rs e more in record { offset = m.offset; listed = there x rs (m.offset, e.1) m.listed; address = m.address }
  | inr last ↦ let is : addressed n x ≡ e = cons-one (addressed n x) e last in
      subst (λ (y : ℕ × Stored). IsIn n (x ∷ rs) y) is (record { offset = x.0; listed = here x rs; address = refl })
]

pub in-page_log : (n : ℕ) (page : List ℕ) (o : ℕ) (r : Stored) → Contains (records_of page) (o, r) → Contains (page_log n page) (n * PAGE_SIZE + o, r)
unfolding page_log
in-page_log n page o r c = in-first n (records_of page) o r c

pub from-page_log : (n : ℕ) (page : List ℕ) (e : ℕ × Stored) → Contains (page_log n page) e → IsIn n (records_of page) e
unfolding page_log
from-page_log n page e c = from-first n (records_of page) e c

-- the addresses of a page that is laid out
pub address-in : (n : ℕ) (page : List ℕ) (e : ℕ × Stored) → IsLaidOut page → Contains (page_log n page) e → (begin_of n ≤ e.0) × (e.0 < (n + 1) * PAGE_SIZE)
address-in n page e laid c =
    let i = from-page_log n page e c in
    let p : IsPlaced (used_end page) (i.offset, e.1) = All-contains (IsPlaced (used_end page)) (records_of page) (i.offset, e.1) laid.each i.listed in
    (omega (arith, i.address, p.past_header), omega (arith, i.address, p.within, laid.in_page))

live-append : (begin : ℕ) (a b : Log) → AllLive begin a → AllLive begin b → AllLive begin (a ++ b)
live-append begin [] b p q = q
live-append begin (e ∷ a) b p q = (p.0, live-append begin a b p.1 q)

live-each : (begin : ℕ) (log : Log) → ((e : ℕ × Stored) → Contains log e → begin ≤ e.0) → AllLive begin log
live-each begin [] f = tt
live-each begin (e ∷ log) f = (f e (here e log), live-each begin log (λ x c. f x (there e log x c)))

live-more : (low high : ℕ) (log : Log) → low ≤ high → AllLive high log → AllLive low log
live-more low high [] le p = tt
live-more low high (e ∷ log) le p = (omega (arith, p.0), live-more low high log le p.1)

pub log-above : (n : ℕ) (pages : List (List ℕ)) → AllLaid n pages → AllLive (begin_of n) (log_from n pages)
unfolding log_from
log-above n [] laid = tt
log-above n (page ∷ pages) laid =
    live-append (begin_of n) (log_from (n + 1) pages) (page_log n page) (live-more (begin_of n) (begin_of (n + 1)) (log_from (n + 1) pages) (omega arith) (log-above (n + 1) pages laid.2))
    (live-each (begin_of n) (page_log n page) (λ e c. (address-in n page e laid.0 c).0))

pub top-below : (log : Log) (bound : ℕ) → 0 < bound → ((e : ℕ × Stored) → Contains log e → e.0 < bound) → top log < bound
top-below [] bound some f = some
top-below (e ∷ log) bound some f = f e (here e log)

-- ---- the oldest page

cut-pages : (c : ℕ) (kept : List (Option Kept)) (pages : List (List ℕ)) (k : Kept) → slice_index_or kept 0 None ≡ Some k
    → map shown_page (take (suc c) kept) ++ pages ≡ k.shown ∷ (map shown_page (take c (drop 1 kept)) ++ pages)
cut-pages c [] pages k e = absurd cc
cut-pages c (x ∷ kept) pages k e = ap (λ (y : Option Kept). shown_page y ∷ (map shown_page (take c kept) ++ pages)) e

pub pages-cut : (p : HybridLog) (k : Kept) → p.oldest < p.resident.oldest → receipt_of p p.oldest ≡ Some k → pages_of p ≡ k.shown ∷ pages_of (without_oldest_page p)
pages-cut p k lt e =
    let c : ℕ = p.resident.oldest - (p.oldest + 1) in
    let size : cold p ≡ suc c = omega arith in
    let first : p.oldest - p.oldest ≡ 0 = omega arith in
    let e0 : slice_index_or p.kept 0 None ≡ Some k = rw first at e in
    ap (λ (n : ℕ). map shown_page (take n p.kept) ++ p.resident.pages) size ∙ cut-pages c p.kept p.resident.pages k e0

pub log-cut : (p : HybridLog) (k : Kept) → p.oldest < p.resident.oldest → receipt_of p p.oldest ≡ Some k → log_of p ≡ log_of (without_oldest_page p) ++ page_log p.oldest k.shown
unfolding log_from
log-cut p k lt e = ap (log_from p.oldest) (pages-cut p k lt e)

-- what is known of it
pub record IsOldest (p : HybridLog) (k : Kept) : Type 0 where
  pub laid : IsLaidOut k.shown
  pub number : number_of k.shown ≡ p.oldest
  pub rest : AllLaid (p.oldest + 1) (pages_of (without_oldest_page p))
  pub log : log_of p ≡ log_of (without_oldest_page p) ++ page_log p.oldest k.shown
  pub short : (offset : ℕ) (r : Stored) → Contains (records_of k.shown) (offset, r) → IsShort r

pub oldest : (p : HybridLog) (k : Kept) → IsHybridLog p → p.oldest < p.resident.oldest → receipt_of p p.oldest ≡ Some k → IsOldest p k
oldest p k is lt e =
    let laid : AllLaid p.oldest (k.shown ∷ pages_of (without_oldest_page p)) = subst (AllLaid p.oldest) (pages-cut p k lt e) is.laid in
    let log = log-cut p k lt e in
    record {
      laid = laid.0;
      number = laid.1;
      rest = laid.2;
      log = log;
      short = λ o r c. All-contains (λ (x : ℕ × Stored). IsShort x.1) (log_of p) (p.oldest * PAGE_SIZE + o, r) is.short
          (subst (λ (l : Log). Contains l (p.oldest * PAGE_SIZE + o, r)) (sym log) (right (log_of (without_oldest_page p)) (page_log p.oldest k.shown) (p.oldest * PAGE_SIZE + o, r) (in-page_log p.oldest k.shown o r c)));
    }

some_first : (kept : List (Option Kept)) → (0 < length kept) → slice_index_or kept 0 None ≡ None → count_kept (drop 1 kept) ≤ count_kept kept
some_first [] lt e = absurd (omega arith)
some_first (x ∷ kept) lt e = rw e (omega arith)

fewer : (kept : List (Option Kept)) → count_kept (drop 1 kept) ≤ count_kept kept
fewer [] = omega arith
fewer (None ∷ kept) = omega arith
fewer (Some k ∷ kept) = omega arith

after-one : (kept : List (Option Kept)) (i : ℕ) → slice_index_or (drop 1 kept) i None ≡ slice_index_or kept (suc i) None
after-one [] i = refl
after-one (x ∷ kept) i = refl

all-left : (P : ℕ × Stored → Type 0) (a b : Log) → All P (a ++ b) → All P a
all-left P a b all = λ k d lt. subst P (get_or_append_left a b d k lt) (all k d (omega (arith, length-append a b)))

pub log-without : (p : HybridLog) (k : Kept) → IsHybridLog p → p.oldest < p.resident.oldest → receipt_of p p.oldest ≡ Some k → IsHybridLog (without_oldest_page p)
log-without p k is lt e =
    let o = oldest p k is lt e in
    let next : HybridLog = without_oldest_page p in
    let some : 0 < length p.kept = omega (arith, is.numbered, is.tail) in
    let bucket : List ℕ → ℕ = bucket_of p in
    let both : IsLinked bucket (begin_of p.oldest) (log_of next ++ page_log p.oldest k.shown) = subst (IsLinked bucket (begin_of p.oldest)) o.log is.linked in
    let low : top (page_log p.oldest k.shown) < begin_of (p.oldest + 1) = top-below (page_log p.oldest k.shown) (begin_of (p.oldest + 1)) (omega arith) (λ x c. omega (arith, address-in p.oldest k.shown x o.laid c)) in
    record {
      numbered = omega (arith, is.numbered, length-drop 1 p.kept);
      live = omega arith;
      tail = is.tail;
      enough = is.enough;
      fits = is.fits;
      shared = is.shared;
      buckets = is.buckets;
      laid = o.rest;
      linked = linked-raised bucket (begin_of p.oldest) (begin_of (p.oldest + 1)) (log_of next) (page_log p.oldest k.shown) both low (omega arith) (log-above (p.oldest + 1) (pages_of next) o.rest);
      joined = λ b within. Joins-raised bucket (begin_of p.oldest) (begin_of (p.oldest + 1)) (log_of next) (page_log p.oldest k.shown) (slice_index p.heads b) b
          (linked-back bucket (begin_of p.oldest) (log_of next) (page_log p.oldest k.shown) both) low (omega arith) (subst (λ (l : Log). Joins bucket (begin_of p.oldest) (slice_index p.heads b) l b) o.log (is.joined b within));
      cold_kept = λ i below. rw (after-one p.kept i) (is.cold_kept (suc i) (omega arith));
      shows = λ i x from h.
          let was : slice_index_or p.kept (suc i) None ≡ Some x = sym (after-one p.kept i) ∙ h in
          let s = is.shows (suc i) x (omega arith) was in
          let there : p.oldest + 1 + i ≡ p.oldest + suc i = omega arith in
          (rw there s.0, omega (arith, s.1));
      counted = omega (arith, is.counted, fewer p.kept);
      few = is.few;
      short = all-left (λ (x : ℕ × Stored). IsShort x.1) (log_of next) (page_log p.oldest k.shown) (subst (All (λ (x : ℕ × Stored). IsShort x.1)) o.log is.short);
      limited = is.limited;
    }

-- ---- what receipts show

pub number-at : (n : ℕ) (ps : List (List ℕ)) (i : ℕ) → AllLaid n ps → i < length ps → number_of (slice_index_or ps i []) ≡ n + i
number-at n [] i laid lt = absurd (omega arith)
number-at n (p ∷ ps) zero laid lt = laid.1 ∙ sym (add-zero n)
number-at n (p ∷ ps) (suc i) laid lt = omega (arith, number-at (n + 1) ps i laid.2 (omega arith))

pub shown-at : (kept : List (Option Kept)) (i : ℕ) (x : Kept) → slice_index_or kept i None ≡ Some x → (i < length kept) × (slice_index_or (map shown_page kept) i [] ≡ x.shown)
shown-at [] i x e = absurd cc
shown-at (y ∷ kept) zero x e = (omega arith, ap shown_page e)
shown-at (y ∷ kept) (suc i) x e = let more = shown-at kept i x e in (omega (arith, more.0), more.1)

-- the page that a receipt shows has the number of the page that it is kept for
pub kept-number : (p : HybridLog) (i : ℕ) (x : Kept) → IsHybridLog p → slice_index_or p.kept i None ≡ Some x → number_of x.shown ≡ p.oldest + i
kept-number p i x is e =
    let c = cold p in
    let cold_pages : List (List ℕ) = map shown_page (take c p.kept) in
    let here = shown-at p.kept i x e in
    let fits : c ≤ length p.kept = omega (arith, is.numbered, is.live) in
    let size : length cold_pages ≡ c = length-map (take c p.kept) shown_page ∙ length-take-le c p.kept fits in
    let all : length (pages_of p) ≡ length cold_pages + length p.resident.pages = length-append cold_pages p.resident.pages in
    let lt : i < length (pages_of p) = omega (arith, here.0, is.numbered, is.live) in
    let page : slice_index_or (pages_of p) i [] ≡ x.shown = elim (cases_lt i c) [
      | inl old ↦ get_or_append_left cold_pages p.resident.pages [] i (omega arith) ∙ (shown-at (take c p.kept) i x (get_or-take c p.kept i None old ∙ e)).1
      | inr new ↦ get_or-append_right cold_pages p.resident.pages c i [] size new ∙ ap (λ (k : ℕ). slice_index_or p.resident.pages k []) (let k : i - c ≡ p.oldest + i - p.resident.oldest = omega (arith, is.live) in k) ∙ sym (is.shows i x new e).0
    ] in
    ap number_of (sym page) ∙ number-at p.oldest (pages_of p) i is.laid lt

-- the oldest page leaves, whose receipt stands in front
pub record IsForgotten (p : HybridLog) (k : Kept) (rest : List (Option Kept)) : Type 0 where
  pub part : IsHybridLog (record p { oldest = p.oldest + 1; kept = rest })
  pub cut : IsCut (log_of p) (log_of (record p { oldest = p.oldest + 1; kept = rest })) p.oldest k.shown
  pub alone : (x : Kept) → Contains rest (Some x) → x.shown ≡ k.shown → ⊥

pub forgotten : (p : HybridLog) (k : Kept) (rest : List (Option Kept)) → IsHybridLog p → p.oldest < p.resident.oldest → p.kept ≡ Some k ∷ rest → IsForgotten p k rest
forgotten p k rest is lt e =
    let zero_at : p.oldest - p.oldest ≡ 0 = omega arith in
    let front : receipt_of p p.oldest ≡ Some k = rw (zero_at, e) refl in
    let behind : drop 1 p.kept ≡ rest = rw e refl in
    let o = oldest p k is lt front in
    let next : IsHybridLog (record p { oldest = p.oldest + 1; kept = rest }) = subst (λ (l : List (Option Kept)). IsHybridLog (record p { oldest = p.oldest + 1; kept = l })) behind (log-without p k is lt front) in
    record {
      part = next;
      cut = record { log = o.log ∙ ap (λ (l : List (Option Kept)). log_of (record p { oldest = p.oldest + 1; kept = l }) ++ page_log p.oldest k.shown) behind; laid = o.laid; short = o.short };
      alone = λ x c same.
          let at : slice_index_or rest c.0 None ≡ Some x = get_or_default rest c.0 None (Some x) c.1 ∙ c.2 in
          omega (arith, kept-number (record p { oldest = p.oldest + 1; kept = rest }) c.0 x next at, o.number, ap number_of same);
    }

-- the same from the stripe's fields
pub forgotten-from : {X : Type 0} (f : X → Kept) (items new : List (Option X)) (first : Option X) (x : X) (v now : HybridLog) → v ≡ now → IsHybridLog v → now.oldest < now.resident.oldest → v.kept ≡ map (option_map f) items → items ≡ first ∷ new → first ≡ Some x
    → IsForgotten v (f x) (map (option_map f) new)
forgotten-from f items new first x v now same is lt e i h =
    let lt_there : v.oldest < v.resident.oldest = subst (λ (q : HybridLog). q.oldest < q.resident.oldest) (sym same) lt in
    forgotten v (f x) (map (option_map f) new) is lt_there (e ∙ ap (map (option_map f)) i ∙ ap (λ y. option_map f y ∷ map (option_map f) new) h)

pub kept-some : {X : Type 0} (f : X → Kept) (items : List (Option X)) (v now : HybridLog) → v ≡ now → IsHybridLog v → now.oldest < now.resident.oldest → v.kept ≡ map (option_map f) items → (new : List (Option X)) → items ≡ None ∷ new → ⊥
kept-some f items v now same is lt e new i =
    let lt_there : v.oldest < v.resident.oldest = subst (λ (q : HybridLog). q.oldest < q.resident.oldest) (sym same) lt in
    let none : v.kept ≡ None ∷ map (option_map f) new = e ∙ ap (map (option_map f)) i in
    let some : IsSome (slice_index_or v.kept 0 None) = is.cold_kept 0 (omega arith) in
    let bad : IsSome (slice_index_or (None ∷ map (option_map f) new) 0 None) = subst (λ (l : List (Option Kept)). IsSome (slice_index_or l 0 None)) none some in
    absurd cc

pub kept-length : {X : Type 0} (f : X → Kept) (items : List (Option X)) (v : HybridLog) → IsHybridLog v → v.kept ≡ map (option_map f) items → 0 < length items
kept-length f items v is e = omega (arith, is.numbered, is.tail, is.live, ap length e, length-map items (option_map f))

-- a receipt leaves
pub one-fewer : {X : Type 0} (f : X → Kept) (items new : List (Option X)) (first : Option X) (x : X) → items ≡ first ∷ new → first ≡ Some x → count_kept (map (option_map f) items) ≡ count_kept (map (option_map f) new) + 1
one-fewer f items new first x i h =
    let whole : map (option_map f) items ≡ Some (f x) ∷ map (option_map f) new = ap (map (option_map f)) (i ∙ ap (λ y. y ∷ new) h) in
    omega (arith, ap count_kept whole)

-- the place of the receipt that leaves is still counted
pub fewer-kept : {X : Type 0} (f : X → Kept) (items new : List (Option X)) (first : Option X) (x : X) (v : HybridLog) → IsHybridLog v → v.kept ≡ map (option_map f) items → items ≡ first ∷ new → first ≡ Some x → count_kept (map (option_map f) new) < v.unreleased
fewer-kept f items new first x v is e i h =
    let whole : v.kept ≡ Some (f x) ∷ map (option_map f) new = e ∙ ap (map (option_map f)) (i ∙ ap (λ y. y ∷ new) h) in
    omega (arith, is.counted, ap count_kept whole)

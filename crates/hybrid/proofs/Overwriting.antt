-- How a stripe's value changes when a record of the mutable part takes another value in place.
use Rattle.std.proofs.Common.{◌≡◌, ℕ, zero, suc, ◌+◌, ◌-◌, ◌*◌, ◌/◌, ◌%◌, ◌<◌, ◌≤◌, ◌==◌, true, false, cond, ◌⊎◌, inl, inr, List, [], ◌∷◌, ◌++◌, length, map, set, slice_index, Option, Some, None, refl, sym, ap, ◌∙◌, subst, arith, length-set}
use Rattle.std.specs.Prelude.{slice_index_or, option_map}
use Rattle.std.specs.List.{Contains, All}
use Rattle.std.specs.Map.{update}
use Rattle.std.specs.Str.{bytes_eq}
use Rattle.std.proofs.lemmas.List.{map-append, get_or-set_same, get_or-set_other}
use Rattle.std.proofs.lemmas.List.Elements.{Contains-append_cases, All-contains}
use Rattle.std.proofs.lemmas.Bool.{cases_Bool, cases_eq, eq-eqb, ne_eqb}
use Rattle.std.proofs.lemmas.Slice.Eq.{bytes_eq-Decides}
use Rattle.records.specs.declared.pages.TheConstants.{PAGE_SIZE, HEADER_SIZE}
use Rattle.records.specs.Page.{number_of, used_end}
use Rattle.words.specs.declared.limits.TheConstants.{VALUE_BYTES_MAX}
use Rattle.records.specs.Records.{Stored, size_of, value_bytes, with_value, records_of, IsLaidOut, IsPlaced, HasRoomAt}
use Rattle.frames.specs.Resident.{next_number, page_of, first_mutable}
use Rattle.hybrid.specs.Log.{Log, newest, contents, log_from, page_log, newest_first, addressed, AllLaid, IsAppended, IsLinked, Joins, head, top, begin_of, IsShort}
use Rattle.hybrid.specs.HybridLog.{HybridLog, IsHybridLog, IsPut, bucket_of, pages_of, page_at, log_of, tail_bytes}
use Rattle.hybrid.specs.Lookups.{IsRoomy}
use Rattle.hybrid.proofs.Logs.{newest-listed, newest-key, newest-put, newest-put_same, contents-newest, contents-alike}
use Rattle.hybrid.proofs.Chains.{unique}
use Rattle.hybrid.proofs.Parts.{address-in, from-page_log}
use Rattle.hybrid.proofs.Replacing.{with_bytes, IsReplaced, replaced, page-resident, pages-size}

-- ---- a record of the log, by its page

-- the record at an address stands in the page that the address names
pub record IsFrom (n : ℕ) (pages : List (List ℕ)) (e : ℕ × Stored) : Type 0 where
  pub low : n ≤ e.0 / PAGE_SIZE
  pub high : e.0 / PAGE_SIZE < n + length pages
  pub laid : IsLaidOut (slice_index_or pages (e.0 / PAGE_SIZE - n) [])
  pub number : number_of (slice_index_or pages (e.0 / PAGE_SIZE - n) []) ≡ e.0 / PAGE_SIZE
  pub listed : Contains (records_of (slice_index_or pages (e.0 / PAGE_SIZE - n) [])) (e.0 % PAGE_SIZE, e.1)

pub log-page : (n : ℕ) (pages : List (List ℕ)) (e : ℕ × Stored) → AllLaid n pages → Contains (log_from n pages) e → IsFrom n pages e
unfolding log_from
log-page n [] e laid c = absurd (omega (arith, c.1))
log-page n (p ∷ pages) e laid c = elim (Contains-append_cases (log_from (n + 1) pages) (page_log n p) e c) [
  | inl new ↦
      let f = log-page (n + 1) pages e laid.2 new in
      let shift : e.0 / PAGE_SIZE - n ≡ suc (e.0 / PAGE_SIZE - (n + 1)) = omega (arith, f.low) in
      let page : slice_index_or (p ∷ pages) (e.0 / PAGE_SIZE - n) [] ≡ slice_index_or pages (e.0 / PAGE_SIZE - (n + 1)) [] = ap (λ (i : ℕ). slice_index_or (p ∷ pages) i []) shift in
      record {
        low = omega (arith, f.low);
        high = omega (arith, f.high);
        laid = subst IsLaidOut (sym page) f.laid;
        number = ap number_of page ∙ f.number;
        listed = subst (λ (q : List ℕ). Contains (records_of q) (e.0 % PAGE_SIZE, e.1)) (sym page) f.listed;
      }
  | inr old ↦
      let it = from-page_log n p e old in
      let at : IsPlaced (used_end p) (it.offset, e.1) = All-contains (IsPlaced (used_end p)) (records_of p) (it.offset, e.1) laid.0.each it.listed in
      let div : e.0 / PAGE_SIZE ≡ n = omega (arith, it.address, at.within, at.stored.key_fits, laid.0.in_page) in
      let rem : e.0 % PAGE_SIZE ≡ it.offset = omega (arith, it.address, at.within, at.stored.key_fits, laid.0.in_page) in
      let first : e.0 / PAGE_SIZE - n ≡ 0 = omega (arith, div) in
      let page : slice_index_or (p ∷ pages) (e.0 / PAGE_SIZE - n) [] ≡ p = ap (λ (i : ℕ). slice_index_or (p ∷ pages) i []) first in
      record {
        low = omega (arith, div);
        high = omega (arith, div);
        laid = subst IsLaidOut (sym page) laid.0;
        number = ap number_of page ∙ laid.1 ∙ sym div;
        listed = subst (λ (q : List ℕ). Contains (records_of q) (e.0 % PAGE_SIZE, e.1)) (sym page) (subst (λ (o : ℕ). Contains (records_of p) (o, e.1)) (sym rem) it.listed);
      }
]

-- the same of a stripe's log
pub record IsAtPage (p : HybridLog) (e : ℕ × Stored) : Type 0 where
  pub low : p.oldest ≤ e.0 / PAGE_SIZE
  pub high : e.0 / PAGE_SIZE < next_number p.resident
  pub laid : IsLaidOut (page_at p (e.0 / PAGE_SIZE))
  pub number : number_of (page_at p (e.0 / PAGE_SIZE)) ≡ e.0 / PAGE_SIZE
  pub listed : Contains (records_of (page_at p (e.0 / PAGE_SIZE))) (e.0 % PAGE_SIZE, e.1)

pub at-page : (p : HybridLog) (e : ℕ × Stored) → IsHybridLog p → Contains (log_of p) e → IsAtPage p e
at-page p e is c =
    let f = log-page p.oldest (pages_of p) e is.laid c in
    record { low = f.low; high = omega (arith, f.high, pages-size p is, is.live); laid = f.laid; number = f.number; listed = f.listed }

-- ---- the log with another value in one record

pub changed-other : (n a : ℕ) (value : Option (List ℕ)) (log : Log) → ((e : ℕ × Stored) → Contains log e → e.0 ≡ a → ⊥) → map (with_value a value) log ≡ log
changed-other n a value [] apart = refl
changed-other n a value (e ∷ log) apart =
    let f : (e.0 == a) ≡ false = ne_eqb e.0 a (apart e (0, omega arith, refl)) in
    rw f (ap (λ (l : Log). e ∷ l) (changed-other n a value log (λ x c. apart x (suc c.0, omega (arith, c.1), c.2))))

changed-first : (n o : ℕ) (value : Option (List ℕ)) (rs : List (ℕ × Stored)) → newest_first n (map (with_value o value) rs) ≡ map (with_value (n * PAGE_SIZE + o) value) (newest_first n rs)
changed-first n o value [] = refl
changed-first n o value (e ∷ rs) =
    ap (λ (l : Log). l ++ addressed n (with_value o value e) ∷ []) (changed-first n o value rs)
    ∙ ap (λ (x : ℕ × Stored). map (with_value (n * PAGE_SIZE + o) value) (newest_first n rs) ++ x ∷ []) one
    ∙ sym (map-append (with_value (n * PAGE_SIZE + o) value) (newest_first n rs) (addressed n e ∷ []))
  where
    one : addressed n (with_value o value e) ≡ with_value (n * PAGE_SIZE + o) value (addressed n e)
    one = elim (cases_eq e.0 o) [
      | inl y ↦
          let t : (e.0 == o) ≡ true = eq-eqb e.0 o y in
          let u : (n * PAGE_SIZE + e.0 == n * PAGE_SIZE + o) ≡ true = eq-eqb (n * PAGE_SIZE + e.0) (n * PAGE_SIZE + o) (omega (arith, y)) in
          rw (t, u) refl
      | inr other ↦
          let t : (e.0 == o) ≡ false = ne_eqb e.0 o other in
          let u : (n * PAGE_SIZE + e.0 == n * PAGE_SIZE + o) ≡ false = ne_eqb (n * PAGE_SIZE + e.0) (n * PAGE_SIZE + o) (λ s. other (omega (arith, s))) in
          rw (t, u) refl
    ]

changed-page : (n o : ℕ) (value : Option (List ℕ)) (page w : List ℕ) → records_of w ≡ map (with_value o value) (records_of page) → page_log n w ≡ map (with_value (n * PAGE_SIZE + o) value) (page_log n page)
unfolding page_log
changed-page n o value page w e = ap (newest_first n) e ∙ changed-first n o value (records_of page)

-- the page of number n + i gets another value at offset o
pub log-changed : (n : ℕ) (pages : List (List ℕ)) (i o a : ℕ) (value : Option (List ℕ)) (w : List ℕ) → AllLaid n pages → i < length pages → o < PAGE_SIZE → a ≡ (n + i) * PAGE_SIZE + o
    → records_of w ≡ map (with_value o value) (records_of (slice_index_or pages i [])) → log_from n (set pages i w) ≡ map (with_value a value) (log_from n pages)
unfolding log_from
log-changed n [] i o a value w laid lt in_page at e = absurd (omega (arith, lt))
log-changed n (p ∷ pages) zero o a value w laid lt in_page at e =
    let here : a ≡ n * PAGE_SIZE + o = omega (arith, at) in
    ap (λ (l : Log). log_from (n + 1) pages ++ l) (changed-page n o value p w e ∙ ap (λ (x : ℕ). map (with_value x value) (page_log n p)) (sym here))
    ∙ ap (λ (l : Log). l ++ map (with_value a value) (page_log n p)) (sym (changed-other n a value (log_from (n + 1) pages) (λ x c same. let f = log-page (n + 1) pages x laid.2 c in omega (arith, f.low, same, here, in_page))))
    ∙ sym (map-append (with_value a value) (log_from (n + 1) pages) (page_log n p))
log-changed n (p ∷ pages) (suc i) o a value w laid lt in_page at e =
    ap (λ (l : Log). l ++ page_log n p) (log-changed (n + 1) pages i o a value w laid.2 (omega (arith, lt)) in_page (omega (arith, at)) e)
    ∙ ap (λ (l : Log). map (with_value a value) (log_from (n + 1) pages) ++ l) (sym (changed-other n a value (page_log n p) (λ x c same. let f = address-in n p x laid.0 c in omega (arith, f.1, same, at))))
    ∙ sym (map-append (with_value a value) (log_from (n + 1) pages) (page_log n p))

-- links, keys and sizes stay
with-is : (a : ℕ) (value : Option (List ℕ)) (e : ℕ × Stored) → ((with_value a value e).0 ≡ e.0) × (((with_value a value e).1.key ≡ e.1.key) × (((with_value a value e).1.link ≡ e.1.link) × (size_of (with_value a value e).1 ≡ size_of e.1)))
with-is a value e = elim (cases_Bool (e.0 == a)) [ inl t ↦ rw t (refl, (refl, (refl, refl))) | inr f ↦ rw f (refl, (refl, (refl, refl))) ]

changed-head : (bucket : List ℕ → ℕ) (a : ℕ) (value : Option (List ℕ)) (log : Log) (b : ℕ) → head bucket (map (with_value a value) log) b ≡ head bucket log b
changed-head bucket a value [] b = refl
changed-head bucket a value (e ∷ log) b =
    let it = with-is a value e in
    ap (λ (k : List ℕ). cond (bucket k == b) (Some (with_value a value e).0) (head bucket (map (with_value a value) log) b)) it.1.0
    ∙ ap (λ (n : ℕ). cond (bucket e.1.key == b) (Some n) (head bucket (map (with_value a value) log) b)) it.0
    ∙ ap (λ (o : Option ℕ). cond (bucket e.1.key == b) (Some e.0) o) (changed-head bucket a value log b)

changed-joins : (bucket : List ℕ → ℕ) (begin a : ℕ) (value : Option (List ℕ)) (log : Log) (x b : ℕ) → Joins bucket begin x log b → Joins bucket begin x (map (with_value a value) log) b
changed-joins bucket begin a value log x b joins = rw (changed-head bucket a value log b) joins

changed-top : (a : ℕ) (value : Option (List ℕ)) (log : Log) → top (map (with_value a value) log) ≡ top log
changed-top a value [] = refl
changed-top a value (e ∷ log) = (with-is a value e).0

changed-linked : (bucket : List ℕ → ℕ) (begin a : ℕ) (value : Option (List ℕ)) (log : Log) → IsLinked bucket begin log → IsLinked bucket begin (map (with_value a value) log)
changed-linked bucket begin a value [] linked = tt
changed-linked bucket begin a value (e ∷ log) linked =
    let it = with-is a value e in (
      record {
        live = omega (arith, linked.0.live, it.0);
        falls = omega (arith, linked.0.falls, it.0, changed-top a value log);
        joins = subst (λ (k : List ℕ). Joins bucket begin (with_value a value e).1.link (map (with_value a value) log) (bucket k)) (sym it.1.0)
            (subst (λ (l : ℕ). Joins bucket begin l (map (with_value a value) log) (bucket e.1.key)) (sym it.1.1.0) (changed-joins bucket begin a value log e.1.link (bucket e.1.key) linked.0.joins));
      },
      changed-linked bucket begin a value log linked.1,
    )

all-tail : (P : ℕ × Stored → Type 0) (x : ℕ × Stored) (xs : Log) → All P (x ∷ xs) → All P xs
all-tail P x xs all k d lt = all (suc k) d (omega (arith, lt))

short-with : (a : ℕ) (value : Option (List ℕ)) (e : ℕ × Stored) → length (value_bytes value) ≤ VALUE_BYTES_MAX → IsShort e.1 → IsShort (with_value a value e).1
short-with a value e fits short = elim (cases_Bool (e.0 == a)) [
  | inl t ↦ rw t (record { size = short.size; fits = record { key_fits = short.fits.key_fits; value_fits = fits } })
  | inr f ↦ rw f short
]

changed-short : (a : ℕ) (value : Option (List ℕ)) (log : Log) → length (value_bytes value) ≤ VALUE_BYTES_MAX → All (λ (e : ℕ × Stored). IsShort e.1) log → All (λ (e : ℕ × Stored). IsShort e.1) (map (with_value a value) log)
changed-short a value [] fits all k d lt = absurd (omega (arith, lt))
changed-short a value (e ∷ log) fits all zero d lt = short-with a value e fits (all 0 e (omega arith))
changed-short a value (e ∷ log) fits all (suc k) d lt = changed-short a value log fits (all-tail (λ (x : ℕ × Stored). IsShort x.1) e log all) k d (omega (arith, lt))

-- ---- the stripe

-- where the record lies
pub record IsRoomAt (p : HybridLog) (address size : ℕ) : Type 0 where
  pub low : first_mutable p.resident ≤ address / PAGE_SIZE
  pub high : address / PAGE_SIZE < next_number p.resident
  pub laid : IsLaidOut (page_of p.resident (address / PAGE_SIZE))
  pub number : number_of (page_of p.resident (address / PAGE_SIZE)) ≡ address / PAGE_SIZE
  pub room : HasRoomAt (records_of (page_of p.resident (address / PAGE_SIZE))) (address % PAGE_SIZE) size

pub room-at : (p : HybridLog) (address size : ℕ) → IsHybridLog p → IsRoomy p address size → IsRoomAt p address size
room-at p address size is roomy =
    let f = at-page p (address, roomy.stored) is roomy.listed in
    let low : first_mutable p.resident ≤ address / PAGE_SIZE = omega (arith, roomy.mutable) in
    let page : page_at p (address / PAGE_SIZE) ≡ page_of p.resident (address / PAGE_SIZE) = page-resident p (address / PAGE_SIZE) is (omega (arith, low)) in
    record {
      low = low;
      high = f.high;
      laid = subst IsLaidOut page f.laid;
      number = ap number_of (sym page) ∙ f.number;
      room = record { stored = roomy.stored; listed = subst (λ (q : List ℕ). Contains (records_of q) (address % PAGE_SIZE, roomy.stored)) page f.listed; fits = roomy.fits };
    }

pub overwritten : (p : HybridLog) (address size : ℕ) (value : Option (List ℕ)) (w : List ℕ) → IsHybridLog p → IsRoomy p address size → length (value_bytes value) ≤ VALUE_BYTES_MAX → IsLaidOut w → number_of w ≡ number_of (page_of p.resident (address / PAGE_SIZE))
    → records_of w ≡ map (with_value (address % PAGE_SIZE) value) (records_of (page_of p.resident (address / PAGE_SIZE))) → IsReplaced p (with_bytes p (address / PAGE_SIZE) w p.heads) (map (with_value address value) (log_of p))
overwritten p address size value w is roomy fits laid numbered records =
    let at = room-at p address size is roomy in
    let n : ℕ = address / PAGE_SIZE in
    let page : page_at p n ≡ page_of p.resident n = page-resident p n is (omega (arith, at.low)) in
    let i : ℕ = n - p.oldest in
    let there : p.oldest + i ≡ n = omega (arith, at.low, is.live) in
    let records_there : records_of w ≡ map (with_value (address % PAGE_SIZE) value) (records_of (slice_index_or (pages_of p) i [])) = records ∙ ap (λ (q : List ℕ). map (with_value (address % PAGE_SIZE) value) (records_of q)) (sym page) in
    let lt : i < length (pages_of p) = omega (arith, pages-size p is, at.high, at.low, is.live) in
    let log = log-changed p.oldest (pages_of p) i (address % PAGE_SIZE) address value w is.laid lt (omega arith) (omega (arith, there)) records_there in
    replaced p n w p.heads (map (with_value address value) (log_of p)) is at.low at.high laid (numbered ∙ at.number) log refl
    (changed-linked (bucket_of p) (begin_of p.oldest) address value (log_of p) is.linked)
    (λ b within. changed-joins (bucket_of p) (begin_of p.oldest) address value (log_of p) (slice_index p.heads b) b (is.joined b within))
    (changed-short address value (log_of p) fits is.short)

-- the bytes in the tail page stay, whichever page was written to
pub tail-same : (p : HybridLog) (number : ℕ) (w heads : List ℕ) → IsHybridLog p → p.resident.oldest ≤ number → number < next_number p.resident → used_end w ≡ used_end (page_of p.resident number) → tail_bytes (with_bytes p number w heads) ≡ tail_bytes p
tail-same p number w heads is low high end = go (cases_eq (length p.resident.pages - 1) (number - p.resident.oldest))
  where
    go : ((length p.resident.pages - 1 ≡ number - p.resident.oldest) ⊎ (length p.resident.pages - 1 ≡ number - p.resident.oldest → ⊥)) → tail_bytes (with_bytes p number w heads) ≡ tail_bytes p
    go (inl e) =
        let count : length (set p.resident.pages (number - p.resident.oldest) w) ≡ length p.resident.pages = length-set p.resident.pages (number - p.resident.oldest) w in
        let last : slice_index_or (set p.resident.pages (number - p.resident.oldest) w) (length (set p.resident.pages (number - p.resident.oldest) w) - 1) [] ≡ w =
        ap (λ (k : ℕ). slice_index_or (set p.resident.pages (number - p.resident.oldest) w) k []) (ap (λ (k : ℕ). k - 1) count ∙ e) ∙ get_or-set_same p.resident.pages (number - p.resident.oldest) w [] (omega (arith, high, low)) in
        let was : page_of p.resident number ≡ slice_index_or p.resident.pages (length p.resident.pages - 1) [] = ap (λ (k : ℕ). slice_index_or p.resident.pages k []) (sym e) in
        ap (λ (q : List ℕ). used_end q - HEADER_SIZE) last ∙ ap (λ (k : ℕ). k - HEADER_SIZE) (end ∙ ap used_end was)
    go (inr n) =
        let count : length (set p.resident.pages (number - p.resident.oldest) w) ≡ length p.resident.pages = length-set p.resident.pages (number - p.resident.oldest) w in
        ap (λ (q : List ℕ). used_end q - HEADER_SIZE) (ap (λ (k : ℕ). slice_index_or (set p.resident.pages (number - p.resident.oldest) w) k []) (ap (λ (k : ℕ). k - 1) count) ∙ get_or-set_other p.resident.pages (number - p.resident.oldest) (length p.resident.pages - 1) w [] n)

-- ---- what keys have after it

changed-newest : (a : ℕ) (value : Option (List ℕ)) (log : Log) (q : List ℕ) → newest (map (with_value a value) log) q ≡ option_map (with_value a value) (newest log q)
unfolding newest
changed-newest a value [] q = refl
changed-newest a value (e ∷ log) q =
    let key = (with-is a value e).1.0 in
    ap (λ (k : List ℕ). cond (bytes_eq k q) (Some (with_value a value e)) (newest (map (with_value a value) log) q)) key
    ∙ elim (cases_Bool (bytes_eq e.1.key q)) [ inl t ↦ rw t refl | inr f ↦ rw f (changed-newest a value log q) ]

with-here : (a : ℕ) (value : Option (List ℕ)) (r : Stored) → with_value a value (a, r) ≡ (a, record r { value = value })
with-here a value r = let t : (a == a) ≡ true = eq-eqb a a refl in rw t refl

with-other : (a : ℕ) (value : Option (List ℕ)) (e : ℕ × Stored) → (e.0 ≡ a → ⊥) → with_value a value e ≡ e
with-other a value e n = let f : (e.0 == a) ≡ false = ne_eqb e.0 a n in rw f refl

bytes-same : (k q : List ℕ) → k ≡ q → bytes_eq k q ≡ true
bytes-same k q e = (bytes_eq-Decides k q).1 e

bytes-other : (k q : List ℕ) → (k ≡ q → ⊥) → bytes_eq k q ≡ false
bytes-other k q n = elim (cases_Bool (bytes_eq k q)) [ inl t ↦ absurd (n ((bytes_eq-Decides k q).0 t)) | inr f ↦ f ]

-- in place
pub contents-changed : (p : HybridLog) (address : ℕ) (key : List ℕ) (r : Stored) (value : Option (List ℕ)) (q : List ℕ) → IsHybridLog p → newest (log_of p) key ≡ Some (address, r)
    → contents (map (with_value address value) (log_of p)) q ≡ update bytes_eq (contents (log_of p)) key value q
contents-changed p address key r value q is new = elim (cases_Bool (bytes_eq key q)) [
  | inl t ↦
      let same : key ≡ q = (bytes_eq-Decides key q).0 t in
      let there : newest (map (with_value address value) (log_of p)) q ≡ Some (address, record r { value = value }) =
      changed-newest address value (log_of p) q ∙ ap (option_map (with_value address value)) (ap (newest (log_of p)) (sym same) ∙ new) ∙ ap (λ (x : ℕ × Stored). Some x) (with-here address value r) in
      rw t (contents-newest (map (with_value address value) (log_of p)) q (Some (address, record r { value = value })) there)
  | inr f ↦ rw f (go f (newest (log_of p) q) refl)
]
  where
    go : bytes_eq key q ≡ false → (o : Option (ℕ × Stored)) → newest (log_of p) q ≡ o → contents (map (with_value address value) (log_of p)) q ≡ contents (log_of p) q
    go other None e = contents-alike (map (with_value address value) (log_of p)) (log_of p) q (changed-newest address value (log_of p) q ∙ ap (option_map (with_value address value)) e ∙ sym e)
    go other (Some x) e = elim (cases_eq x.0 address) [
      | inl at ↦
          -- one record an address, so the keys are one
          let it : x ≡ (address, x.1) = ap (λ (n : ℕ). (n, x.1)) at in
          let listed : Contains (log_of p) (address, x.1) = subst (λ (y : ℕ × Stored). Contains (log_of p) y) it (newest-listed (log_of p) q x e) in
          let one : x.1 ≡ r = unique (bucket_of p) (begin_of p.oldest) (log_of p) address x.1 r is.linked listed (newest-listed (log_of p) key (address, r) new) in
          let keys : key ≡ q = sym (newest-key (log_of p) key (address, r) new) ∙ ap (λ (s : Stored). s.key) (sym one) ∙ newest-key (log_of p) q x e in
          absurd (let bad : bytes_eq key q ≡ true = (bytes_eq-Decides key q).1 keys in cc)
      | inr n ↦ contents-alike (map (with_value address value) (log_of p)) (log_of p) q
          (changed-newest address value (log_of p) q ∙ ap (option_map (with_value address value)) e ∙ ap (λ (y : ℕ × Stored). Some y) (with-other address value x n) ∙ sym e)
    ]

-- at the tail
pub contents-appended : (old new : Log) (address link : ℕ) (key : List ℕ) (value : Option (List ℕ)) (q : List ℕ) → IsAppended old new address link key value → contents new q ≡ update bytes_eq (contents old) key value q
contents-appended old new address link key value q put = ap (λ (l : Log). contents l q) put.log ∙ elim (cases_Bool (bytes_eq key q)) [
  | inl t ↦
      let same : put.put.key ≡ q = put.key_is ∙ (bytes_eq-Decides key q).0 t in
      rw t (contents-newest ((address, put.put) ∷ old) q (Some (address, put.put)) (newest-put_same old address put.put q same) ∙ put.value_is)
  | inr f ↦ rw f (elim (newest-put old address put.put q) [
    | inl y ↦ absurd (let bad : bytes_eq key q ≡ true = (bytes_eq-Decides key q).1 (sym put.key_is ∙ y.0) in cc)
    | inr n ↦ contents-alike ((address, put.put) ∷ old) old q n
  ])
]

-- the place of the record, from the stripe's fields
pub room-from : (v now : HybridLog) (address size : ℕ) → v ≡ now → IsHybridLog v → IsRoomy now address size → IsRoomAt v address size
room-from v now address size same is roomy = room-at v address size is (subst (λ (q : HybridLog). IsRoomy q address size) (sym same) roomy)

pub record IsOverwritten (now new : HybridLog) (address : ℕ) (value : Option (List ℕ)) : Type 0 where
  pub is : IsHybridLog new
  pub log : log_of new ≡ map (with_value address value) (log_of now)
  pub put : IsPut now new
  pub heads : new.heads ≡ now.heads
  pub bytes : tail_bytes new ≡ tail_bytes now

pub overwritten-from : (v now : HybridLog) (address number offset size : ℕ) (value : Option (List ℕ)) (page w : List ℕ) → number ≡ address / PAGE_SIZE → offset ≡ address % PAGE_SIZE → v ≡ now → IsHybridLog v → IsRoomy now address size → length (value_bytes value) ≤ VALUE_BYTES_MAX → page ≡ page_of v.resident number → IsLaidOut w → number_of w ≡ number_of page → used_end w ≡ used_end page
    → records_of w ≡ map (with_value offset value) (records_of page) → IsOverwritten now (with_bytes v number w v.heads) address value
overwritten-from v now address number offset size value page w number_is offset_is same is roomy fits read laid numbered end changed =
    let there = read ∙ ap (page_of v.resident) number_is in
    let records = changed ∙ ap (λ (o : ℕ). map (with_value o value) (records_of page)) offset_is in
    let roomy_v : IsRoomy v address size = subst (λ (q : HybridLog). IsRoomy q address size) (sym same) roomy in
    let at = room-at v address size is roomy_v in
    let r = overwritten v address size value w is roomy_v fits laid (numbered ∙ ap number_of there) (records ∙ ap (λ (q : List ℕ). map (with_value (address % PAGE_SIZE) value) (records_of q)) there) in
    let tail = tail-same v (address / PAGE_SIZE) w v.heads is (omega (arith, at.low)) at.high (end ∙ ap used_end there) in
    subst (λ (n : ℕ). IsOverwritten now (with_bytes v n w v.heads) address value) (sym number_is)
    (subst (λ (q : HybridLog). IsOverwritten q (with_bytes v (address / PAGE_SIZE) w v.heads) address value) same (record { is = r.is; log = r.log; put = r.put; heads = refl; bytes = tail }))

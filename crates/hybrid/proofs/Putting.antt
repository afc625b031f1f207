-- How a stripe's value changes when a record is put into the tail page.
use Rattle.std.proofs.Common.{◌≡◌, ℕ, zero, suc, ◌+◌, ◌-◌, ◌*◌, ◌/◌, ◌%◌, ◌<◌, ◌≤◌, inl, inr, List, [], ◌∷◌, ◌++◌, length, set, slice_index, Option, refl, sym, ap, ◌∙◌, subst, arith, mod-lt, length-set}
use Rattle.std.specs.Prelude.{slice_index_or}
use Rattle.std.specs.List.{Contains, All}
use Rattle.std.proofs.lemmas.List.{get_or-set_same, get_or-set_other}
use Rattle.std.proofs.lemmas.List.Elements.{Contains-append_cases, All-contains}
use Rattle.std.proofs.lemmas.Bool.{cases_eq, eq-eqb, ne_eqb}
use Rattle.records.specs.declared.pages.TheConstants.{PAGE_SIZE, HEADER_SIZE}
use Rattle.records.specs.Page.{number_of, used_end}
use Rattle.records.specs.Records.{Stored, size_of, size_for, value_bytes, new_record, records_of, IsLaidOut, IsPlaced}
use Rattle.frames.specs.Resident.{next_number, page_of, first_mutable}
use Rattle.words.specs.Stripes.{hash_of}
use Rattle.hybrid.specs.Log.{Log, log_from, page_log, newest_first, addressed, AllLaid, Fits, IsAppended, IsShort, Joins, begin_of}
use Rattle.hybrid.specs.HybridLog.{HybridLog, IsHybridLog, IsPut, bucket_of, head_of, pages_of, page_at, log_of, tail_bytes}
use Rattle.hybrid.proofs.Finding.{part-is}
use Rattle.hybrid.proofs.Parts.{address-in, from-page_log, top-below, number-at}
use Rattle.hybrid.proofs.Tail.{laid-at, size-short, used-fits}
use Rattle.hybrid.proofs.Replacing.{with_bytes, IsReplaced, replaced, page-resident, pages-size}

first-more : (n : ℕ) (rs : List (ℕ × Stored)) (o : ℕ) (r : Stored) → newest_first n (rs ++ (o, r) ∷ []) ≡ (n * PAGE_SIZE + o, r) ∷ newest_first n rs
first-more n [] o r = refl
first-more n (e ∷ rs) o r = ap (λ (l : Log). l ++ addressed n e ∷ []) (first-more n rs o r)

page_log-more : (n : ℕ) (page w : List ℕ) (o : ℕ) (r : Stored) → records_of w ≡ records_of page ++ (o, r) ∷ [] → page_log n w ≡ (n * PAGE_SIZE + o, r) ∷ page_log n page
unfolding page_log
page_log-more n page w o r e = ap (newest_first n) e ∙ first-more n (records_of page) o r

-- one record more in the newest page
pub log-more : (n : ℕ) (pages : List (List ℕ)) (i : ℕ) (w : List ℕ) (o a : ℕ) (r : Stored) → suc i ≡ length pages → records_of w ≡ records_of (slice_index_or pages i []) ++ (o, r) ∷ [] → a ≡ (n + i) * PAGE_SIZE + o
    → log_from n (set pages i w) ≡ (a, r) ∷ log_from n pages
unfolding log_from
log-more n [] i w o a r last e at = absurd (omega arith)
log-more n (p ∷ []) zero w o a r last e at = page_log-more n p w o r e ∙ ap (λ (x : ℕ). (x, r) ∷ page_log n p) (omega arith)
log-more n (p ∷ q ∷ pages) zero w o a r last e at = absurd (omega arith)
log-more n (p ∷ pages) (suc i) w o a r last e at = ap (λ (l : Log). l ++ page_log n p) (log-more (n + 1) pages i w o a r (omega arith) e (omega arith))

-- each record stands before the end of the newest page's used part
log-below : (n : ℕ) (pages : List (List ℕ)) (i : ℕ) (e : ℕ × Stored) → AllLaid n pages → suc i ≡ length pages → Contains (log_from n pages) e → e.0 < (n + i) * PAGE_SIZE + used_end (slice_index_or pages i [])
unfolding log_from
log-below n [] i e laid last c = absurd (omega arith)
log-below n (p ∷ []) zero e laid last c =
    let it = from-page_log n p e c in
    let at : IsPlaced (used_end p) (it.offset, e.1) = All-contains (IsPlaced (used_end p)) (records_of p) (it.offset, e.1) laid.0.each it.listed in
    omega (arith, it.address, at.within)
log-below n (p ∷ q ∷ pages) zero e laid last c = absurd (omega arith)
log-below n (p ∷ pages) (suc i) e laid last c = elim (Contains-append_cases (log_from (n + 1) pages) (page_log n p) e c) [
  | inl new ↦ omega (arith, log-below (n + 1) pages i e laid.2 (omega arith) new)
  | inr old ↦ omega (arith, (address-in n p e laid.0 old).1)
]

all-more : (P : ℕ × Stored → Type 0) (x : ℕ × Stored) (xs : Log) → P x → All P xs → All P (x ∷ xs)
all-more P x xs p all zero d lt = p
all-more P x xs p all (suc k) d lt = all k d (omega (arith, lt))

joins-other : (bucket : List ℕ → ℕ) (begin a b : ℕ) (e : ℕ × Stored) (log : Log) → (bucket e.1.key ≡ b → ⊥) → Joins bucket begin a log b → Joins bucket begin a (e ∷ log) b
joins-other bucket begin a b e log other joins = rw (ne_eqb (bucket e.1.key) b other) joins

joins-here : (bucket : List ℕ → ℕ) (begin a b : ℕ) (e : ℕ × Stored) (log : Log) → bucket e.1.key ≡ b → a ≡ e.0 → Joins bucket begin a (e ∷ log) b
joins-here bucket begin a b e log same at = rw (eq-eqb (bucket e.1.key) b same) at

-- a record of the key is put into the tail page, which becomes w
pub put-log : (p : HybridLog) (number a : ℕ) (w heads key : List ℕ) (r : Stored) → IsHybridLog p → number + 1 ≡ next_number p.resident → IsLaidOut w → number_of w ≡ number
    → records_of w ≡ records_of (page_of p.resident number) ++ (used_end (page_of p.resident number), r) ∷ [] → a ≡ number * PAGE_SIZE + used_end (page_of p.resident number)
    → r.key ≡ key → r.link ≡ slice_index p.heads (bucket_of p key) → heads ≡ set p.heads (bucket_of p key) a → IsShort r → HEADER_SIZE ≤ used_end (page_of p.resident number)
    → IsReplaced p (with_bytes p number w heads) ((a, r) ∷ log_of p)
put-log p number a w heads key r is last laid numbered records at same link moved short low =
    let bucket : List ℕ → ℕ = bucket_of p in
    let b : ℕ = bucket_of p key in
    let mutable : first_mutable p.resident ≤ number = omega (arith, last, is.enough, is.tail) in
    let i : ℕ = number - p.oldest in
    let page : page_at p number ≡ page_of p.resident number = page-resident p number is (omega (arith, last, is.tail)) in
    let size : suc i ≡ length (pages_of p) = omega (arith, pages-size p is, last, is.live, is.tail) in
    let there : p.oldest + i ≡ number = omega (arith, last, is.live, is.tail) in
    let page_records : records_of w ≡ records_of (slice_index_or (pages_of p) i []) ++ (used_end (page_of p.resident number), r) ∷ [] = records ∙ ap (λ (q : List ℕ). records_of q ++ (used_end (page_of p.resident number), r) ∷ []) (sym page) in
    let log : log_from p.oldest (set (pages_of p) i w) ≡ (a, r) ∷ log_of p = log-more p.oldest (pages_of p) i w (used_end (page_of p.resident number)) a r size page_records (at ∙ ap (λ (n : ℕ). n * PAGE_SIZE + used_end (page_of p.resident number)) (sym there)) in
    let inside : b < length p.heads = mod-lt _ is.buckets in
    let here_is : bucket r.key ≡ b = ap bucket same in
    replaced p number w heads ((a, r) ∷ log_of p) is mutable (omega (arith, last)) laid numbered log (ap (λ (l : List ℕ). length l) moved ∙ length-set p.heads b a) (
      record {
        live = omega (arith, at, low, last, is.live, is.tail);
        falls = top-below (log_of p) a (omega (arith, at, low)) (λ e c.
            let lt : e.0 < (p.oldest + i) * PAGE_SIZE + used_end (page_at p number) = log-below p.oldest (pages_of p) i e is.laid size c in
            let end : used_end (page_at p number) ≡ used_end (page_of p.resident number) = ap used_end page in
            omega (arith, lt, at, there, end));
        joins = subst (λ (x : ℕ). Joins bucket (begin_of p.oldest) r.link (log_of p) x) (sym here_is) (subst (λ (x : ℕ). Joins bucket (begin_of p.oldest) x (log_of p) b) (sym link) (is.joined b inside));
      },
      is.linked,
    )
    (λ c within. elim (cases_eq c b) [
      | inl e ↦ joins-here bucket (begin_of p.oldest) (slice_index heads c) c (a, r) (log_of p) (here_is ∙ sym e)
          (ap (λ (l : List ℕ). slice_index l c) moved ∙ ap (λ (n : ℕ). slice_index (set p.heads b a) n) e ∙ get_or-set_same p.heads b a 0 inside)
      | inr n ↦ joins-other bucket (begin_of p.oldest) (slice_index heads c) c (a, r) (log_of p) (λ e. n (sym e ∙ here_is))
          (subst (λ (x : ℕ). Joins bucket (begin_of p.oldest) x (log_of p) c) (sym (ap (λ (l : List ℕ). slice_index l c) moved ∙ get_or-set_other p.heads b c a 0 n)) (is.joined c within))
    ])
    (all-more (λ (e : ℕ × Stored). IsShort e.1) (a, r) (log_of p) short is.short)

-- the tail page
pub record IsTail (v : HybridLog) (number : ℕ) (page : List ℕ) : Type 0 where
  pub last : number + 1 ≡ next_number v.resident
  pub laid : IsLaidOut page
  pub numbered : number_of page ≡ number
  pub low : HEADER_SIZE ≤ used_end page
  pub high : used_end page ≤ PAGE_SIZE
  pub end : used_end page ≡ HEADER_SIZE + tail_bytes v

pub tail-is : (v : HybridLog) (number : ℕ) (page : List ℕ) → IsHybridLog v → number ≡ next_number v.resident - 1 → page ≡ page_of v.resident number → IsTail v number page
tail-is v number page is at same =
    let last : number + 1 ≡ next_number v.resident = omega (arith, at, is.tail) in
    let i : ℕ = number - v.oldest in
    let lt : i < length (pages_of v) = omega (arith, pages-size v is, last, is.live, is.tail) in
    let there : page_at v number ≡ page = page-resident v number is (omega (arith, last, is.tail)) ∙ sym same in
    let laid : IsLaidOut page = subst IsLaidOut there (laid-at v.oldest (pages_of v) i is.laid lt) in
    let fits = used-fits page laid in
    let place : number - v.resident.oldest ≡ length v.resident.pages - 1 = omega (arith, last) in
    let tail : page ≡ slice_index_or v.resident.pages (length v.resident.pages - 1) [] = same ∙ ap (λ (n : ℕ). slice_index_or v.resident.pages n []) place in
    let number_is : number_of page ≡ v.oldest + i = ap number_of (sym there) ∙ number-at v.oldest (pages_of v) i is.laid lt in
    let tail_end : used_end page ≡ used_end (slice_index_or v.resident.pages (length v.resident.pages - 1) []) = ap used_end tail in
    record {
      last = last;
      laid = laid;
      numbered = omega (arith, number_is, last, is.live, is.tail);
      low = fits.0;
      high = fits.1;
      end = omega (arith, tail_end, fits.0);
    }

-- what a put leaves, from the stripe's fields
pub record IsPutIn (now new : HybridLog) (a : ℕ) (key : List ℕ) (value : Option (List ℕ)) : Type 0 where
  pub is : IsHybridLog new
  pub appended : IsAppended (log_of now) (log_of new) a (head_of now key) key value
  pub heads : new.heads ≡ set now.heads (bucket_of now key) a
  pub put : IsPut now new
  pub bytes : tail_bytes new ≡ tail_bytes now + size_for (length key) (length (value_bytes value))
  pub address : a ≡ begin_of (next_number now.resident - 1) + tail_bytes now
  pub resident : begin_of now.resident.oldest ≤ a

pub put-from : (v now : HybridLog) (number offset a head link hash part : ℕ) (page w heads key : List ℕ) (value : Option (List ℕ)) → v ≡ now → IsHybridLog v → number ≡ next_number v.resident - 1 → page ≡ page_of v.resident number → IsLaidOut w → number_of w ≡ number_of page
    → records_of w ≡ records_of page ++ (used_end page, new_record link hash key value) ∷ [] → used_end w ≡ used_end page + size_for (length key) (length (value_bytes value)) → offset ≡ used_end page
    → hash ≡ hash_of key → part ≡ hash / now.stripes → link ≡ slice_index v.heads (part % length v.heads) → a ≡ number * PAGE_SIZE + offset → head ≡ a → heads ≡ set v.heads (part % length v.heads) head → Fits key value
    → IsPutIn now (with_bytes v number w heads) a key value
put-from v now number offset a head link hash part page w heads key value same is at there laid numbered records end offset_is hashed parted linked placed headed moved fits =
    let t = tail-is v number page is at there in
    let r : Stored = new_record link hash key value in
    let b_is : part % length v.heads ≡ bucket_of v key = ap (λ (n : ℕ). n % length v.heads) (part-is v now key hash part same hashed parted) in
    let size : size_of r ≡ size_for (length key) (length (value_bytes value)) = omega arith in
    let short : IsShort r = record { size = omega (arith, size, size-short (length key) (length (value_bytes value)) fits.key_fits fits.value_fits); fits = fits } in
    let link_is : link ≡ head_of v key = linked ∙ ap (slice_index v.heads) b_is in
    let heads_are : heads ≡ set v.heads (bucket_of v key) a = moved ∙ ap (set v.heads (part % length v.heads)) headed ∙ ap (λ (b : ℕ). set v.heads b a) b_is in
    let records_there : records_of w ≡ records_of (page_of v.resident number) ++ (used_end (page_of v.resident number), r) ∷ [] = subst (λ (q : List ℕ). records_of w ≡ records_of q ++ (used_end q, r) ∷ []) there records in
    let a_is : a ≡ number * PAGE_SIZE + used_end (page_of v.resident number) = placed ∙ ap (λ (o : ℕ). number * PAGE_SIZE + o) (offset_is ∙ ap used_end there) in
    let low : HEADER_SIZE ≤ used_end (page_of v.resident number) = subst (λ (q : List ℕ). HEADER_SIZE ≤ used_end q) there t.low in
    let done = put-log v number a w heads key r is t.last laid (numbered ∙ t.numbered) records_there a_is refl link_is heads_are short low in
    let new : HybridLog = with_bytes v number w heads in
    let count : length (set v.resident.pages (number - v.resident.oldest) w) ≡ length v.resident.pages = length-set v.resident.pages (number - v.resident.oldest) w in
    let last_at : length (set v.resident.pages (number - v.resident.oldest) w) - 1 ≡ number - v.resident.oldest = omega (arith, count, t.last) in
    let tail_page : slice_index_or (set v.resident.pages (number - v.resident.oldest) w) (length (set v.resident.pages (number - v.resident.oldest) w) - 1) [] ≡ w =
    ap (λ (k : ℕ). slice_index_or (set v.resident.pages (number - v.resident.oldest) w) k []) last_at ∙ get_or-set_same v.resident.pages (number - v.resident.oldest) w [] (omega (arith, t.last, is.tail)) in
    let tail_end : used_end (slice_index_or (set v.resident.pages (number - v.resident.oldest) w) (length (set v.resident.pages (number - v.resident.oldest) w) - 1) []) ≡ used_end w = ap used_end tail_page in
    let bytes : tail_bytes new ≡ tail_bytes v + size_for (length key) (length (value_bytes value)) = omega (arith, tail_end, end, t.end) in
    let address : a ≡ begin_of (next_number v.resident - 1) + tail_bytes v = omega (arith, placed, offset_is, t.end, t.last) in
    let resident : begin_of v.resident.oldest ≤ a = omega (arith, placed, offset_is, t.low, t.last, is.tail) in
    subst (λ (q : HybridLog). IsPutIn q new a key value) same (record {
      is = done.is;
      appended = record { put = r; link_is = link_is; key_is = refl; hash_is = hashed; value_is = refl; capacity = refl; log = done.log };
      heads = heads_are;
      put = done.put;
      bytes = bytes;
      address = address;
      resident = resident;
    })

-- How a stripe's value changes when a page of the mutable part gets other bytes.
use Rattle.std.proofs.Common.{◌≡◌, ℕ, zero, suc, ◌+◌, ◌-◌, ◌/◌, ◌%◌, ◌<◌, ◌≤◌, List, [], ◌∷◌, ◌++◌, length, take, map, set, slice_index, refl, sym, ap, ◌∙◌, subst, arith, length-append, length-set}
use Rattle.std.specs.Prelude.{slice_index_or}
use Rattle.std.specs.List.{All}
use Rattle.std.proofs.lemmas.List.{length-map, length-take-le, get_or-append_right, get_or-set_other}
use Rattle.records.specs.Page.{number_of}
use Rattle.records.specs.Records.{Stored, IsLaidOut}
use Rattle.frames.specs.Resident.{next_number, page_of, first_mutable, with_page}
use Rattle.words.specs.Stripes.{hash_of}
use Rattle.hybrid.specs.Log.{Log, log_from, AllLaid, IsLinked, Joins, begin_of, IsShort}
use Rattle.hybrid.specs.HybridLog.{HybridLog, IsHybridLog, IsPut, bucket_of, pages_of, page_at, log_of, shown_page, cold}

set-right : (xs ys : List (List ℕ)) (n i : ℕ) (w : List ℕ) → length xs ≡ n → set (xs ++ ys) (n + i) w ≡ xs ++ set ys i w
set-right [] ys zero i w e = let z : zero + i ≡ i = omega arith in ap (λ (k : ℕ). set ys k w) z
set-right [] ys (suc n) i w e = absurd (omega (arith, e))
set-right (x ∷ xs) ys zero i w e = absurd (omega (arith, e))
set-right (x ∷ xs) ys (suc n) i w e = let z : suc n + i ≡ suc (n + i) = omega arith in ap (λ (k : ℕ). set (x ∷ (xs ++ ys)) k w) z ∙ ap (λ (l : List (List ℕ)). x ∷ l) (set-right xs ys n i w (omega (arith, e)))

pub cold-size : (p : HybridLog) → IsHybridLog p → length (map shown_page (take (cold p) p.kept)) ≡ cold p
cold-size p is = length-map (take (cold p) p.kept) shown_page ∙ length-take-le (cold p) p.kept (omega (arith, is.numbered, is.live))

pub pages-size : (p : HybridLog) → IsHybridLog p → length (pages_of p) ≡ cold p + length p.resident.pages
pages-size p is = length-append (map shown_page (take (cold p) p.kept)) p.resident.pages ∙ ap (λ (n : ℕ). n + length p.resident.pages) (cold-size p is)

-- a resident page as a page of the log
pub page-resident : (p : HybridLog) (number : ℕ) → IsHybridLog p → p.resident.oldest ≤ number → page_at p number ≡ page_of p.resident number
page-resident p number is low =
    let there : cold p ≤ number - p.oldest = omega (arith, is.live) in
    let place : number - p.oldest - cold p ≡ number - p.resident.oldest = omega (arith, is.live) in
    get_or-append_right (map shown_page (take (cold p) p.kept)) p.resident.pages (cold p) (number - p.oldest) [] (cold-size p is) there ∙ ap (λ (n : ℕ). slice_index_or p.resident.pages n []) place

-- the log with other bytes in one page, and other heads
abbrev pub with_bytes : HybridLog → ℕ → List ℕ → List ℕ → HybridLog
with_bytes p number w heads = record p { resident = with_page p.resident number w; heads = heads }

pub pages-replaced : (p : HybridLog) (number : ℕ) (w heads : List ℕ) → IsHybridLog p → p.resident.oldest ≤ number → pages_of (with_bytes p number w heads) ≡ set (pages_of p) (number - p.oldest) w
pages-replaced p number w heads is low =
    let place : cold p + (number - p.resident.oldest) ≡ number - p.oldest = omega (arith, is.live) in
    sym (ap (λ (n : ℕ). set (pages_of p) n w) (sym place) ∙ set-right (map shown_page (take (cold p) p.kept)) p.resident.pages (cold p) (number - p.resident.oldest) w (cold-size p is))

pub laid-set : (n : ℕ) (pages : List (List ℕ)) (i : ℕ) (w : List ℕ) → AllLaid n pages → IsLaidOut w → number_of w ≡ n + i → AllLaid n (set pages i w)
laid-set n [] i w all laid number = tt
laid-set n (p ∷ pages) zero w all laid number = (laid, omega (arith, number), all.2)
laid-set n (p ∷ pages) (suc i) w all laid number = (all.0, all.1, laid-set (n + 1) pages i w all.2 laid (omega (arith, number)))

pub record IsReplaced (p new : HybridLog) (records : Log) : Type 0 where
  pub is : IsHybridLog new
  pub log : log_of new ≡ records
  pub put : IsPut p new

pub replaced : (p : HybridLog) (number : ℕ) (w heads : List ℕ) (log : Log) → IsHybridLog p → first_mutable p.resident ≤ number → number < next_number p.resident → IsLaidOut w → number_of w ≡ number
    → log_from p.oldest (set (pages_of p) (number - p.oldest) w) ≡ log → length heads ≡ length p.heads → IsLinked (bucket_of p) (begin_of p.oldest) log
    → ((b : ℕ) → b < length p.heads → Joins (bucket_of p) (begin_of p.oldest) (slice_index heads b) log b) → All (λ (e : ℕ × Stored). IsShort e.1) log → IsReplaced p (with_bytes p number w heads) log
replaced p number w heads log is mutable below laid numbered is_log size linked joined short =
    let new : HybridLog = with_bytes p number w heads in
    let low : p.resident.oldest ≤ number = omega (arith, mutable) in
    let pages : pages_of new ≡ set (pages_of p) (number - p.oldest) w = pages-replaced p number w heads is low in
    let log_is : log_of new ≡ log = ap (log_from p.oldest) pages ∙ is_log in
    let bucket : ℕ → List ℕ → ℕ = λ n key. hash_of key / p.stripes % n in
    let count : length (set p.resident.pages (number - p.resident.oldest) w) ≡ length p.resident.pages = length-set p.resident.pages (number - p.resident.oldest) w in
    record {
      is = record {
        numbered = omega (arith, is.numbered, count);
        live = is.live;
        tail = omega (arith, is.tail, count);
        enough = is.enough;
        fits = omega (arith, is.fits, count);
        shared = is.shared;
        buckets = omega (arith, is.buckets, size);
        laid = subst (AllLaid p.oldest) (sym pages) (laid-set p.oldest (pages_of p) (number - p.oldest) w is.laid laid (omega (arith, numbered, is.live, low)));
        linked = subst (λ (l : Log). IsLinked (bucket_of new) (begin_of p.oldest) l) (sym log_is) (subst (λ (n : ℕ). IsLinked (bucket n) (begin_of p.oldest) log) (sym size) linked);
        joined = λ b within. subst (λ (l : Log). Joins (bucket_of new) (begin_of p.oldest) (slice_index heads b) l b) (sym log_is)
            (subst (λ (n : ℕ). Joins (bucket n) (begin_of p.oldest) (slice_index heads b) log b) (sym size) (joined b (omega (arith, within, size))));
        cold_kept = is.cold_kept;
        shows = λ i k from h.
            let was = is.shows i k from h in
            (was.0 ∙ sym (get_or-set_other p.resident.pages (number - p.resident.oldest) (p.oldest + i - p.resident.oldest) w [] (omega (arith, was.1, mutable, from, is.live))), omega (arith, was.1, count));
        counted = is.counted;
        few = omega (arith, is.few, count);
        short = subst (All (λ (e : ℕ × Stored). IsShort e.1)) (sym log_is) short;
        limited = is.limited;
      };
      log = log_is;
      put = record { oldest = refl; kept = refl; first = refl; count = count; frames = refl; buckets = size; stripes = refl; unreleased = refl; places = refl; read_only = λ n from lt. get_or-set_other p.resident.pages (number - p.resident.oldest) (n - p.resident.oldest) w [] (omega (arith, mutable, lt, from)) };
    }

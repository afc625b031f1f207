-- A new stripe, and the pages that wait for the flusher.
use Rattle.std.proofs.Common.{◌≡◌, ℕ, zero, suc, ◌+◌, ◌<◌, ◌≤◌, List, [], ◌∷◌, ◌++◌, length, map, replicate, slice_index, Option, Some, None, refl, sym, ap, ◌∙◌, subst, arith}
use Rattle.std.specs.Prelude.{slice_index_or, option_map}
use Rattle.std.specs.List.{All}
use Rattle.std.proofs.Common.{inl, inr}
use Rattle.std.proofs.lemmas.Bool.{cases_lt}
use Rattle.words.specs.declared.limits.TheConstants.{FRAMES_MIN}
use Rattle.records.specs.Page.{empty_page}
use Rattle.records.specs.Records.{Stored, records_of}
use Rattle.frames.specs.Resident.{Resident, IsEmptyPage, with_opened, next_number, first_mutable}
use Rattle.hybrid.specs.Log.{Log, contents, newest, log_from, IsLinked, Joins, begin_of, IsShort}
use Rattle.hybrid.specs.HybridLog.{HybridLog, Kept, IsHybridLog, IsSealed, empty_log, bucket_of, log_of, receipt_at}
use Rattle.hybrid.proofs.Opening.{page_log-empty}
use Rattle.hybrid.proofs.Finding.{receipt-there}

log-one : (page : List ℕ) → records_of page ≡ [] → log_from 0 (page ∷ []) ≡ []
unfolding log_from
log-one page e = page_log-empty 0 page e

zeros : (n b : ℕ) → slice_index (replicate n 0) b ≡ 0
zeros zero b = refl
zeros (suc n) zero = refl
zeros (suc n) (suc b) = zeros n b

none-kept : (i : ℕ) (k : Kept) → slice_index_or (None ∷ []) i None ≡ Some k → ⊥
none-kept zero k e = absurd cc
none-kept (suc i) k e = absurd cc

pub empty-is : (stripes buckets frames places : ℕ) → 1 ≤ stripes → 1 ≤ buckets → FRAMES_MIN ≤ frames → IsEmptyPage 0 (empty_page 0) → IsHybridLog (empty_log stripes buckets frames places)
empty-is stripes buckets frames places s b f page =
    let p : HybridLog = empty_log stripes buckets frames places in
    let log : log_of p ≡ [] = log-one (empty_page 0) page.records in
    record {
      numbered = refl;
      live = omega arith;
      tail = omega arith;
      enough = f;
      fits = omega (arith, f);
      shared = omega (arith, s);
      buckets = omega (arith, b, zeros-length buckets);
      laid = (page.laid_out, page.numbered, tt);
      linked = subst (λ (l : Log). IsLinked (bucket_of p) (begin_of 0) l) (sym log) tt;
      joined = λ n within. subst (λ (l : Log). Joins (bucket_of p) (begin_of 0) (slice_index p.heads n) l n) (sym log) (omega (arith, zeros buckets n));
      cold_kept = λ i below. absurd (omega (arith, below));
      shows = λ i k from e. absurd (none-kept i k e);
      counted = omega arith;
      few = omega arith;
      short = subst (All (λ (e : ℕ × Stored). IsShort e.1)) (sym log) (λ k d lt. absurd (omega (arith, lt)));
      limited = omega arith;
    }
  where
    zeros-length : (n : ℕ) → length {A = ℕ} (replicate n 0) ≡ n
    zeros-length zero = refl
    zeros-length (suc n) = ap suc (zeros-length n)

-- an empty log has no key
pub empty-contents : (stripes buckets frames places : ℕ) → IsEmptyPage 0 (empty_page 0) → (key : List ℕ) → contents (log_of (empty_log stripes buckets frames places)) key ≡ None
unfolding contents newest
empty-contents stripes buckets frames places page key = ap (λ (l : Log). contents l key) (log-one (empty_page 0) page.records)

-- the same from what was made
pub empty-from : {X : Type 0} (f : X → Kept) (items none : List (Option X)) (frames opened : Resident) (heads : List ℕ) (stripes buckets count places : ℕ) → 1 ≤ stripes → 1 ≤ buckets → FRAMES_MIN ≤ count
    → none ≡ [] → items ≡ none ++ None ∷ [] → frames ≡ record { oldest = 0; pages = []; frames = count } → opened ≡ with_opened frames → heads ≡ replicate buckets 0 → IsEmptyPage (next_number frames) (empty_page (next_number frames))
    → record { oldest = 0; kept = map (option_map f) items; resident = opened; heads = heads; stripes = stripes; unreleased = 0; places = places } ≡ empty_log stripes buckets count places
empty-from f items none frames opened heads stripes buckets count places s b c empty it fr op hd page =
    ap (λ (l : List (Option Kept)). record { oldest = 0; kept = l; resident = opened; heads = heads; stripes = stripes; unreleased = 0; places = places }) (ap (map (option_map f)) (it ∙ ap (λ l. l ++ None ∷ []) empty))
    ∙ ap (λ (r : Resident). record { oldest = 0; kept = None ∷ []; resident = r; heads = heads; stripes = stripes; unreleased = 0; places = places }) (op ∙ ap with_opened fr)
    ∙ ap (λ (h : List ℕ). record { oldest = 0; kept = None ∷ []; resident = record { oldest = 0; pages = empty_page 0 ∷ []; frames = count }; heads = h; stripes = stripes; unreleased = 0; places = places }) hd

pub first-page : (frames : Resident) (count : ℕ) → frames ≡ record { oldest = 0; pages = []; frames = count } → IsEmptyPage (next_number frames) (empty_page (next_number frames)) → IsEmptyPage 0 (empty_page 0)
first-page frames count e page = subst (λ (r : Resident). IsEmptyPage (next_number r) (empty_page (next_number r))) e page

-- ---- sealed pages

pub sealed-here : (p : HybridLog) (number : ℕ) → p.oldest ≤ p.resident.oldest → p.resident.oldest ≤ number → number < first_mutable p.resident → None ≡ receipt_at p number → IsSealed p number
sealed-here p number live low high e = record { from = low; below = high; none = sym (e ∙ receipt-there p number (omega (arith, live, low))) }

pub sealed-not : (p : HybridLog) (number : ℕ) (k : Kept) → p.oldest ≤ p.resident.oldest → Some k ≡ receipt_at p number → IsSealed p number → ⊥
sealed-not p number k live e s = absurd (let bad = sym s.none ∙ sym (receipt-there p number (omega (arith, live, s.from))) ∙ sym e in cc)

-- one page more that is not sealed
pub sealed-more : (p : HybridLog) (number : ℕ) → (IsSealed p number → ⊥) → ((n : ℕ) → n < number → IsSealed p n → ⊥) → (n : ℕ) → n < number + 1 → IsSealed p n → ⊥
sealed-more p number here below n lt s = elim (cases_lt n number) [
  | inl low ↦ below n low s
  | inr high ↦ let at : n ≡ number = omega (arith, high, lt) in here (subst (λ (m : ℕ). IsSealed p m) at s)
]

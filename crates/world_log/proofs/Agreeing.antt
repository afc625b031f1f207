-- A stripe's log, and the plain log that it stands for.
use Rattle.std.proofs.Common.{◌≡◌, ℕ, zero, suc, ◌+◌, ◌-◌, ◌/◌, ◌<◌, ◌≤◌, max, Bool, true, false, not, ◌&&◌, ◌||◌, List, [], ◌∷◌, ◌++◌, length, map, get_or, set, Option, None, Some, is_some, is_none, nat_lt, nat_le, refl, sym, ap, ap₂, subst, ◌∙◌, arith, inl, inr, ⊎_elim, if◌then◌else◌}
use Rattle.std.proofs.lemmas.List.{length-map, map-set, map-append}
use Rattle.std.proofs.lemmas.Bool.{cases_lt}
use mathlib.Core.Logic.{dite}
use native.Mathlib.Decide.{ℕ_discrete}
use Rattle.frames.specs.Resident.{Resident, next_number}
use Rattle.frames.specs.Resident as resident
use Rattle.hybrid.specs.HybridLog as hybrid
use Rattle.hybrid.specs.HybridLog.{HybridLog, IsHybridLog, Kept, IsSealed, count_kept, receipt_of}
use Rattle.hybrid.specs.Reserving.{IsFull}
use Rattle.world_model.specs.Logs as logs
use Rattle.world_model.specs.Logs.{LogState, with_receipt, with_installed, installed_from, LAST_PAGE, places_of, places_kept, place_written, places_stamped, count_copied, place_at, next_page, first_mutable, is_sealed, first_without_receipt, oldest_sealed, unreleased, is_full, with_copy, copied_page}
use Rattle.world_model.specs.Enabled.{has_none}
use Rattle.world_log.specs.declared.queues.Flushing.{Flushing}
use Rattle.world_log.specs.declared.queues.Flushing.TheVariants as has
use Rattle.std.specs.declared.sync.Arc.{Arc}
use Rattle.std.proofs.Common.{Global, length-append}
use Rattle.records.specs.declared.pages.Page.{Page}
use Rattle.world_log.specs.Places.{Receipt, view}
use Rattle.world_log.specs.Beside.{Beside, IsNumbered, flushing_of, log_state, may_copy, place_kept, place_of}

-- READING THE PLAIN LOG

pub kept_read : (kept : List (Option Kept)) (k : ℕ) → get_or (map place_kept kept) k None ≡ place_kept (get_or kept k None)
kept_read [] k = refl
kept_read (o ∷ kept) zero = refl
kept_read (o ∷ kept) (suc k) = kept_read kept k

none_kept : (o : Option Kept) → place_kept o ≡ None → o ≡ None
none_kept None is = refl
none_kept (Some kept) is = cc is

some_kept : (o : Option Kept) → (o ≡ None → ⊥) → is_none (place_kept o) ≡ false
some_kept None never = absurd (never refl)
some_kept (Some kept) never = refl

pub numbered_of : (p : HybridLog) → IsHybridLog p → IsNumbered p
numbered_of p fit = record { live = fit.live; numbered = fit.numbered }

module _ (p : HybridLog) (beside : Beside) (fit : IsNumbered p) where
  pub pages_same : next_page (log_state p beside) ≡ next_number p.resident
  pages_same = omega (arith, length-map p.kept place_kept, fit.numbered)

  pub mutable_same : first_mutable p.resident.frames (log_state p beside) ≡ resident.first_mutable p.resident
  mutable_same = ap (λ (n : ℕ). max p.resident.oldest (n - p.resident.frames / 3)) pages_same

  pub place_is : (n : ℕ) → p.oldest ≤ n → place_at (log_state p beside) n ≡ place_kept (receipt_of p n)
  place_is n live =
      let low : nat_lt n p.oldest ≡ false = grind arith in
      ap (λ (t : Bool). if t then None else get_or (map place_kept p.kept) (n - p.oldest) None) low ∙ kept_read p.kept (n - p.oldest)

  -- a page that waits in the one, waits in the other
  pub sealed_place : (n : ℕ) → IsSealed p n → place_at (log_state p beside) n ≡ None
  sealed_place n is = place_is n (omega (arith, fit.live, is.from)) ∙ ap place_kept is.none

  pub other_place : (n : ℕ) → p.resident.oldest ≤ n → n < resident.first_mutable p.resident → (IsSealed p n → ⊥)
      → is_none (place_at (log_state p beside) n) ≡ false
  other_place n from below never =
      ap is_none (place_is n (omega (arith, fit.live, from)))
      ∙ some_kept (receipt_of p n) (λ none. never (record { from = from; below = below; none = none }))

-- the first page without a receipt
bare_here : (log : LogState) (number count n : ℕ) → number ≤ n → n < number + count → is_none (place_at log n) ≡ true
    → ((m : ℕ) → number ≤ m → m < n → is_none (place_at log m) ≡ false) → first_without_receipt log number count ≡ Some n
bare_here log number zero n from below none before = absurd (omega (arith, from, below))
bare_here log number (suc count) n from below none before = dite (ℕ_discrete n number)
    (λ same.
    let is : is_none (place_at log number) ≡ true = ap (λ (k : ℕ). is_none (place_at log k)) (sym same) ∙ none in
    ap (λ (t : Bool). if t then Some number else first_without_receipt log (number + 1) count) is ∙ ap (λ (k : ℕ). Some k) (sym same))
    (λ other.
    let is : is_none (place_at log number) ≡ false = before number (omega arith) (omega (arith, from, other)) in
    ap (λ (t : Bool). if t then Some number else first_without_receipt log (number + 1) count) is
    ∙ bare_here log (number + 1) count n (omega (arith, from, other)) (omega (arith, below)) none (λ m low lt. before m (omega (arith, low)) lt))

bare_none : (log : LogState) (number count : ℕ) → ((m : ℕ) → number ≤ m → m < number + count → is_none (place_at log m) ≡ false)
    → first_without_receipt log number count ≡ None
bare_none log number zero all = refl
bare_none log number (suc count) all =
    ap (λ (t : Bool). if t then Some number else first_without_receipt log (number + 1) count) (all number (omega arith) (omega arith))
    ∙ bare_none log (number + 1) count (λ m low lt. all m (omega (arith, low)) (omega (arith, lt)))

pub oldest_is : (p : HybridLog) (beside : Beside) → IsHybridLog p → (n : ℕ) → IsSealed p n → ((m : ℕ) → m < n → IsSealed p m → ⊥)
    → oldest_sealed p.resident.frames (log_state p beside) ≡ Some n
oldest_is p beside fit n is before =
    let same : first_mutable p.resident.frames (log_state p beside) ≡ resident.first_mutable p.resident = mutable_same p beside (numbered_of p fit) in
    bare_here (log_state p beside) p.resident.oldest (first_mutable p.resident.frames (log_state p beside) - p.resident.oldest) n is.from
    (omega (arith, same, is.from, is.below)) (ap is_none (sealed_place p beside (numbered_of p fit) n is))
    (λ m low lt. other_place p beside (numbered_of p fit) m low (omega (arith, lt, is.below)) (λ sealed. before m lt sealed))

pub oldest_none : (p : HybridLog) (beside : Beside) → IsHybridLog p → ((m : ℕ) → IsSealed p m → ⊥)
    → oldest_sealed p.resident.frames (log_state p beside) ≡ None
oldest_none p beside fit never =
    let same : first_mutable p.resident.frames (log_state p beside) ≡ resident.first_mutable p.resident = mutable_same p beside (numbered_of p fit) in
    bare_none (log_state p beside) p.resident.oldest (first_mutable p.resident.frames (log_state p beside) - p.resident.oldest)
    (λ m low lt. other_place p beside (numbered_of p fit) m low (omega (arith, same, low, lt)) (never m))

-- whether it is full
pub not_full_by : (p : HybridLog) (beside : Beside) → IsNumbered p → p.unreleased ≡ unreleased (log_state p beside) → p.unreleased < p.places
    → next_number p.resident ≤ LAST_PAGE → is_full p.places (log_state p beside) ≡ false
not_full_by p beside fit counted few numbers =
    let many : nat_le p.places (unreleased (log_state p beside)) ≡ false = not_le p.places (unreleased (log_state p beside)) (omega (arith, counted, few)) in
    let last : nat_lt LAST_PAGE (next_page (log_state p beside)) ≡ false =
    not_lt LAST_PAGE (next_page (log_state p beside)) (subst (λ (n : ℕ). n ≤ LAST_PAGE) (sym (pages_same p beside fit)) numbers) in
    ap₂ (λ (a b : Bool). a || b) many last
  where
    not_le : (a b : ℕ) → b < a → nat_le a b ≡ false
    not_le a b lt = grind arith

    not_lt : (a b : ℕ) → b ≤ a → nat_lt a b ≡ false
    not_lt a b le = grind arith

pub not_full : (p : HybridLog) (beside : Beside) → IsHybridLog p → p.unreleased ≡ unreleased (log_state p beside) → (IsFull p → ⊥)
    → is_full p.places (log_state p beside) ≡ false
not_full p beside fit counted never =
    not_full_by p beside (numbered_of p fit) counted
    (⊎_elim (λ below. below) (λ above. absurd (never (inl (omega (arith, fit.limited, above))))) (cases_lt p.unreleased p.places))
    (⊎_elim (λ below. absurd (never (inr below))) (λ above. above) (cases_lt LAST_PAGE (next_number p.resident)))

-- THE COPY

pub copies_not : (p : HybridLog) (beside : Beside) → IsHybridLog p → ((m : ℕ) → IsSealed p m → ⊥) → may_copy p beside ≡ false
copies_not p beside fit never =
    let none : oldest_sealed p.resident.frames (log_state p beside) ≡ None = oldest_none p beside fit never in
    ap (λ (o : Option ℕ). has_none (flushing_of beside.flushing) && (is_some o && not (is_full p.places (log_state p beside)))) none
    ∙ both_false (has_none (flushing_of beside.flushing))
  where
    both_false : (t : Bool) → (t && false) ≡ false
    both_false true = refl
    both_false false = refl

pub copies_may : (p : HybridLog) (beside : Beside) → IsHybridLog p → p.unreleased ≡ unreleased (log_state p beside) → (n : ℕ) → IsSealed p n
    → ((m : ℕ) → m < n → IsSealed p m → ⊥)
    → has_none (flushing_of beside.flushing) ≡ true → (IsFull p → ⊥) → may_copy p beside ≡ true
copies_may p beside fit counted n is before none never =
    let some : oldest_sealed p.resident.frames (log_state p beside) ≡ Some n = oldest_is p beside fit n is before in
    rw (none, some, not_full p beside fit counted never) refl

-- COUNTS

pub count_same : (kept : List (Option Kept)) → length (places_kept (map place_kept kept)) ≡ count_kept kept
count_same [] = refl
count_same (None ∷ kept) = count_same kept
count_same (Some one ∷ kept) = omega (arith, count_same kept)

pub total : (log : LogState) → length (places_of log) ≡ length (places_kept log.kept) + (length (place_written log.flushing)
    + (length log.unlinked + (length (places_stamped log.retired) + length (places_stamped log.drained))))
total log =
    let last : List ℕ = places_stamped log.retired ++ places_stamped log.drained in
    let more : List ℕ = log.unlinked ++ last in
    let most : List ℕ = place_written log.flushing ++ more in
    omega (
      arith,
      length-append (places_kept log.kept) most,
      length-append (place_written log.flushing) more,
      length-append log.unlinked last,
      length-append (places_stamped log.retired) (places_stamped log.drained),
    )

-- the flusher copies a page, for which a place is counted
pub copied_counts : (p : HybridLog) (beside : Beside) (number : ℕ) (page : Arc Page Global) → beside.flushing ≡ has.Nothing
    → p.unreleased ≡ unreleased (log_state p beside) → p.unreleased + 1 ≡ unreleased (log_state p (record beside { flushing = has.Copied number page }))
copied_counts p beside number page is counted =
    let old : LogState = log_state p beside in
    let new : LogState = log_state p (record beside { flushing = has.Copied number page }) in
    let written : length (place_written old.flushing) ≡ 0 = ap (λ (f : Flushing). length (place_written (flushing_of f))) is in
    let copied : count_copied old.flushing ≡ 0 = ap (λ (f : Flushing). count_copied (flushing_of f)) is in
    omega (arith, counted, total old, total new, written, copied)

pub idle_is : (f : Flushing) → has_none (flushing_of f) ≡ true → f ≡ has.Nothing
idle_is has.Nothing is = refl
idle_is (has.Copied number page) is = absurd (cc is)
idle_is (has.Wrote number page receipt) is = absurd (cc is)

-- THE FLUSHER COMES BACK

is_none_kept : (o : Option Kept) → is_none (place_kept o) ≡ true → o ≡ None
is_none_kept None is = refl
is_none_kept (Some kept) is = cc is

split : (a b : Bool) → (a && b) ≡ true → (a ≡ true) × (b ≡ true)
split true b is = (refl, is)
split false b is = cc

le_of : (a b : ℕ) → nat_le a b ≡ true → a ≤ b
le_of a b is = grind arith

lt_of : (a b : ℕ) → nat_lt a b ≡ true → a < b
lt_of a b is = grind arith

le_is : (a b : ℕ) → a ≤ b → nat_le a b ≡ true
le_is a b le = grind arith

lt_is : (a b : ℕ) → a < b → nat_lt a b ≡ true
lt_is a b lt = grind arith

pub sealed_is : (p : HybridLog) (beside : Beside) → IsHybridLog p → (n : ℕ) → IsSealed p n → is_sealed p.resident.frames (log_state p beside) n ≡ true
sealed_is p beside fit n is =
    let same : first_mutable p.resident.frames (log_state p beside) ≡ resident.first_mutable p.resident = mutable_same p beside (numbered_of p fit) in
    let first : nat_le p.resident.oldest n ≡ true = le_is p.resident.oldest n is.from in
    let second : nat_lt n (first_mutable p.resident.frames (log_state p beside)) ≡ true =
    lt_is n (first_mutable p.resident.frames (log_state p beside)) (subst (λ (m : ℕ). n < m) (sym same) is.below) in
    ap₂ (λ (a b : Bool). a && (b && is_none (place_at (log_state p beside) n))) first second ∙ ap is_none (sealed_place p beside (numbered_of p fit) n is)

pub sealed_back : (p : HybridLog) (beside : Beside) → IsHybridLog p → (n : ℕ) → is_sealed p.resident.frames (log_state p beside) n ≡ true → IsSealed p n
sealed_back p beside fit n is =
    let same : first_mutable p.resident.frames (log_state p beside) ≡ resident.first_mutable p.resident = mutable_same p beside (numbered_of p fit) in
    let log : LogState = log_state p beside in
    let first = split (nat_le log.first n) (nat_lt n (first_mutable p.resident.frames log) && is_none (place_at log n)) is in
    let second = split (nat_lt n (first_mutable p.resident.frames log)) (is_none (place_at log n)) first.1 in
    let from : p.resident.oldest ≤ n = le_of p.resident.oldest n first.0 in
    record {
      from = from;
      below = subst (λ (m : ℕ). n < m) same (lt_of n (first_mutable p.resident.frames log) second.0);
      none =
          is_none_kept (receipt_of p n)
          (ap is_none (sym (place_is p beside (numbered_of p fit) n (omega (arith, fit.live, from)))) ∙ second.1);
    }

pub sealed_not : (p : HybridLog) (beside : Beside) → IsHybridLog p → (n : ℕ) → (IsSealed p n → ⊥)
    → is_sealed p.resident.frames (log_state p beside) n ≡ false
sealed_not p beside fit n never = by_test (is_sealed p.resident.frames (log_state p beside) n) refl
  where
    by_test : (t : Bool) → is_sealed p.resident.frames (log_state p beside) n ≡ t → t ≡ false
    by_test true is = absurd (never (sealed_back p beside fit n is))
    by_test false is = refl

module _ (p new : HybridLog) (beside : Beside) (fit : IsHybridLog p) (number : ℕ) (page : Arc Page Global) (receipt : Receipt)
    (is : beside.flushing ≡ has.Wrote number page receipt) where
  step_is : with_installed p.resident.frames (log_state p beside)
      ≡ (if is_sealed p.resident.frames (log_state p beside) number then record (with_receipt (log_state p beside) number receipt.place) { flushing = logs.Nothing }
      else record (log_state p beside) { flushing = logs.Nothing; unlinked = (log_state p beside).unlinked ++ receipt.place ∷ [] })
  step_is = ap (λ (f : Flushing). installed_from p.resident.frames (log_state p beside) (flushing_of f)) is

  pub kept_done : IsSealed p number
      → new ≡ hybrid.with_receipt p number (view receipt)
      → log_state new (record beside { flushing = has.Nothing }) ≡ with_installed p.resident.frames (log_state p beside)
  kept_done sealed kept =
      ap (λ (q : HybridLog). log_state q (record beside { flushing = has.Nothing })) kept
      ∙ ap (λ (k : List (Option ℕ)). record (log_state p beside) { kept = k; flushing = logs.Nothing })
      (map-set place_kept p.kept (number - p.oldest) (Some (view receipt)))
      ∙ sym (step_is ∙ ap (λ (t : Bool). if t then record (with_receipt (log_state p beside) number receipt.place) { flushing = logs.Nothing }
      else record (log_state p beside) { flushing = logs.Nothing; unlinked = (log_state p beside).unlinked ++ receipt.place ∷ [] }) (sealed_is p beside fit number sealed))

  pub unlinked_done : (IsSealed p number → ⊥)
      → log_state p (record beside { flushing = has.Nothing; unlinked = beside.unlinked ++ view receipt ∷ [] }) ≡ with_installed p.resident.frames (log_state p beside)
  unlinked_done never =
      ap (λ (u : List ℕ). record (log_state p beside) { flushing = logs.Nothing; unlinked = u }) (map-append place_of beside.unlinked (view receipt ∷ []))
      ∙ sym (step_is ∙ ap (λ (t : Bool). if t then record (with_receipt (log_state p beside) number receipt.place) { flushing = logs.Nothing }
      else record (log_state p beside) { flushing = logs.Nothing; unlinked = (log_state p beside).unlinked ++ receipt.place ∷ [] }) (sealed_not p beside fit number never))

-- one receipt more is kept
pub kept_more : (kept : List (Option Kept)) (k : ℕ) (one : Kept) → k < length kept → get_or kept k None ≡ None
    → count_kept (set kept k (Some one)) ≡ count_kept kept + 1
kept_more [] k one below none = absurd (omega arith)
kept_more (None ∷ kept) zero one below none = omega arith
kept_more (Some old ∷ kept) zero one below none = absurd (cc none)
kept_more (None ∷ kept) (suc k) one below none = kept_more kept k one (omega arith) none
kept_more (Some old ∷ kept) (suc k) one below none = omega (arith, kept_more kept k one (omega arith) none)

pub kept_counted : (p new : HybridLog) (beside : Beside) → IsHybridLog p → (number : ℕ) (page : Arc Page Global) (receipt : Receipt) (one : Kept)
    → beside.flushing ≡ has.Wrote number page receipt → p.unreleased ≡ unreleased (log_state p beside) → IsSealed p number
    → new ≡ hybrid.with_receipt p number one
    → new.unreleased ≡ unreleased (log_state new (record beside { flushing = has.Nothing }))
kept_counted p new beside fit number page receipt one is counted sealed kept =
    let old : LogState = log_state p beside in
    let later : HybridLog = hybrid.with_receipt p number one in
    let log : LogState = log_state later (record beside { flushing = has.Nothing }) in
    let written : length (place_written old.flushing) ≡ 1 = ap (λ (f : Flushing). length (place_written (flushing_of f))) is in
    let copied : count_copied old.flushing ≡ 0 = ap (λ (f : Flushing). count_copied (flushing_of f)) is in
    let more : count_kept later.kept ≡ count_kept p.kept + 1 =
    kept_more p.kept (number - p.oldest) one (omega (arith, fit.numbered, fit.live, sealed.from, sealed.below)) sealed.none in
    rw kept (omega (arith, counted, total old, total log, count_same p.kept, count_same later.kept, written, copied, more))

-- the flusher's receipt is unlinked at once
pub late_counted : (p : HybridLog) (beside : Beside) (number : ℕ) (page : Arc Page Global) (receipt : Receipt) (one : Kept) → beside.flushing ≡ has.Wrote number page receipt
    → p.unreleased ≡ unreleased (log_state p beside)
    → p.unreleased ≡ unreleased (log_state p (record beside { flushing = has.Nothing; unlinked = beside.unlinked ++ one ∷ [] }))
late_counted p beside number page receipt one is counted =
    let old : LogState = log_state p beside in
    let new : LogState = log_state p (record beside { flushing = has.Nothing; unlinked = beside.unlinked ++ one ∷ [] }) in
    let written : length (place_written old.flushing) ≡ 1 = ap (λ (f : Flushing). length (place_written (flushing_of f))) is in
    let copied : count_copied old.flushing ≡ 0 = ap (λ (f : Flushing). count_copied (flushing_of f)) is in
    omega (
      arith,
      counted,
      total old,
      total new,
      written,
      copied,
      length-map (beside.unlinked ++ one ∷ []) place_of,
      length-map beside.unlinked place_of,
      length-append beside.unlinked (one ∷ []),
    )

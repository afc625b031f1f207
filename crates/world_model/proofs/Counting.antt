-- Counting places.
use Rattle.std.proofs.Common.{◌≡◌, ◌≢◌, ℕ, zero, suc, ◌+◌, ◌-◌, ◌<◌, ◌≤◌, Bool, true, false, cond, nat_lt, nat_le, List, [], ◌∷◌, ◌++◌, length, get_or, set, drop, replicate, slice_get, Option, None, Some, sym, refl, ap, ◌∙◌, arith, eq-eqb, ne_eqb, if◌then◌else◌}
use mathlib.Core.Logic.{dite}
use native.Mathlib.Decide.{ℕ_discrete}
use Rattle.words.specs.Store.{Bytes}
use Rattle.world_model.specs.Logs.{Stamped, LogState, places_of, places_kept, place_written, places_stamped, place_at}
use Rattle.world_model.specs.States.{log_at}
use Rattle.world_model.specs.Places.{hit, times, all_places, standing, stands, stamped_from, readable}

-- one place
pub hit_same : (one place : ℕ) → place ≡ one → hit one place ≡ 1
hit_same one place same = ap (λ (b : Bool). cond b 1 0) (eq-eqb one place (sym same))

pub hit_other : (one place : ℕ) → place ≢ one → hit one place ≡ 0
hit_other one place other = ap (λ (b : Bool). cond b 1 0) (ne_eqb one place (λ e. other (sym e)))

suc_same : (a b : ℕ) → suc a ≡ suc b → a ≡ b
suc_same a b same = omega arith

hit_suc : (one place : ℕ) → hit (suc one) (suc place) ≡ hit one place
hit_suc one place = dite (ℕ_discrete place one)
    (λ same. hit_same (suc one) (suc place) (ap suc same) ∙ sym (hit_same one place same))
    (λ other. hit_other (suc one) (suc place) (λ e. other (suc_same place one e)) ∙ sym (hit_other one place other))

-- lists of places
pub times_append : (p : ℕ) (xs ys : List ℕ) → times p (xs ++ ys) ≡ times p xs + times p ys
times_append p [] ys = omega arith
times_append p (x ∷ xs) ys = omega (arith, times_append p xs ys)

pub count : (p : ℕ) (log : LogState)
    → times p (places_of log) ≡ times p (places_kept log.kept) + (times p (place_written log.flushing)
    + (times p log.unlinked + (times p (places_stamped log.retired) + times p (places_stamped log.drained))))
count p log =
    let last : List ℕ = places_stamped log.retired ++ places_stamped log.drained in
    let more : List ℕ = log.unlinked ++ last in
    let most : List ℕ = place_written log.flushing ++ more in
    omega (
      arith,
      times_append p (places_kept log.kept) most,
      times_append p (place_written log.flushing) more,
      times_append p log.unlinked last,
      times_append p (places_stamped log.retired) (places_stamped log.drained),
    )

-- all logs
pub total_set : (p : ℕ) (logs : List LogState) (i : ℕ) (new : LogState) → i < length logs
    → times p (all_places (set logs i new)) + times p (places_of (log_at logs i)) ≡ times p (all_places logs) + times p (places_of new)
total_set p [] i new below = absurd (omega arith)
total_set p (log ∷ logs) zero new below =
    omega (arith, times_append p (places_of new) (all_places logs), times_append p (places_of log) (all_places logs))
total_set p (log ∷ logs) (suc i) new below =
    omega (
      arith,
      times_append p (places_of log) (all_places (set logs i new)),
      times_append p (places_of log) (all_places logs),
      total_set p logs i new (omega arith),
    )

pub part_le : (p : ℕ) (logs : List LogState) (i : ℕ) → times p (places_of (log_at logs i)) ≤ times p (all_places logs)
part_le p [] i = omega arith
part_le p (log ∷ logs) zero = omega (arith, times_append p (places_of log) (all_places logs))
part_le p (log ∷ logs) (suc i) = omega (arith, times_append p (places_of log) (all_places logs), part_le p logs i)

pub all_same : (p : ℕ) (logs later : List LogState) → length later ≡ length logs
    → ((i : ℕ) → times p (places_of (log_at later i)) ≡ times p (places_of (log_at logs i)))
    → times p (all_places later) ≡ times p (all_places logs)
all_same p [] [] same each = refl
all_same p [] (log ∷ later) same each = absurd (omega arith)
all_same p (log ∷ logs) [] same each = absurd (omega arith)
all_same p (log ∷ logs) (new ∷ later) same each =
    omega (
      arith,
      times_append p (places_of log) (all_places logs),
      times_append p (places_of new) (all_places later),
      each 0,
      all_same p logs later (omega arith) (λ i. each (suc i)),
    )

-- receipts that are kept
pub kept_set : (p : ℕ) (kept : List (Option ℕ)) (k place : ℕ) → k < length kept → get_or kept k None ≡ None
    → times p (places_kept (set kept k (Some place))) ≡ times p (places_kept kept) + hit place p
kept_set p [] k place below none = absurd (omega arith)
kept_set p (None ∷ kept) zero place below none = omega arith
kept_set p (Some q ∷ kept) zero place below none = absurd (cc none)
kept_set p (None ∷ kept) (suc k) place below none = kept_set p kept k place (omega arith) none
kept_set p (Some q ∷ kept) (suc k) place below none = omega (arith, kept_set p kept k place (omega arith) none)

kept_none : (p n : ℕ) → times p (places_kept (replicate n None)) ≡ 0
kept_none p zero = refl
kept_none p (suc n) = kept_none p n

pub kept_opened : (p : ℕ) (kept : List (Option ℕ)) (n : ℕ) → times p (places_kept (kept ++ replicate n None)) ≡ times p (places_kept kept)
kept_opened p [] n = kept_none p n
kept_opened p (None ∷ kept) n = kept_opened p kept n
kept_opened p (Some q ∷ kept) n = omega (arith, kept_opened p kept n)

some_same : {a b : ℕ} → Option.Some a ≡ Some b → a ≡ b
some_same is = cc is

pub kept_cleaned : (p : ℕ) (kept : List (Option ℕ)) (place n : ℕ) → get_or kept 0 None ≡ Some place
    → times p (places_kept kept) ≡ hit place p + times p (places_kept (drop 1 (kept ++ replicate n None)))
kept_cleaned p [] place n is = absurd (cc is)
kept_cleaned p (None ∷ kept) place n is = absurd (cc is)
kept_cleaned p (Some q ∷ kept) place n is = rw (some_same is) (omega (arith, kept_opened p kept n))

pub kept_at : (kept : List (Option ℕ)) (k place : ℕ) → get_or kept k None ≡ Some place → 1 ≤ times place (places_kept kept)
kept_at [] k place is = absurd (cc is)
kept_at (None ∷ kept) zero place is = absurd (cc is)
kept_at (Some q ∷ kept) zero place is = omega (arith, hit_same q place (sym (some_same is)))
kept_at (None ∷ kept) (suc k) place is = kept_at kept k place is
kept_at (Some q ∷ kept) (suc k) place is = omega (arith, kept_at kept k place is)

-- what a place of a page says
pub place_some : (log : LogState) (number place : ℕ) → place_at log number ≡ Some place → get_or log.kept (number - log.oldest) None ≡ Some place
place_some log number place is =
    elim (nat_lt number log.oldest)
    as (λ t. (if t then None else get_or log.kept (number - log.oldest) None) ≡ Some place → get_or log.kept (number - log.oldest) None ≡ Some place) [
      | true ↦ λ e. absurd (cc e)
      | false ↦ λ e. e
    ] is

none_le : (o : Option ℕ) (t : Bool) → t ≡ false → (if t then None else o) ≡ None → o ≡ None
none_le o t off is = rw off at is

pub place_none : (log : LogState) (number : ℕ) → log.oldest ≤ number → place_at log number ≡ None → get_or log.kept (number - log.oldest) None ≡ None
place_none log number live is =
    none_le (get_or log.kept (number - log.oldest) None) (nat_lt number log.oldest) (grind arith) is

-- places with stamps
pub stamped_more : (p : ℕ) (xs : List Stamped) (one : Stamped) → times p (places_stamped (xs ++ one ∷ [])) ≡ times p (places_stamped xs) + hit one.place p
stamped_more p [] one = omega arith
stamped_more p (x ∷ xs) one = omega (arith, stamped_more p xs one)

one_from : (p x : ℕ) (one : Stamped) → x ≤ one.epoch → times p (stamped_from x (one ∷ [])) ≡ hit one.place p
one_from p x one le =
    let is : nat_le x one.epoch ≡ true = grind arith in
    rw is (omega arith)

pub from_more : (p x : ℕ) (xs : List Stamped) (one : Stamped) → x ≤ one.epoch
    → times p (stamped_from x (xs ++ one ∷ [])) ≡ times p (stamped_from x xs) + hit one.place p
from_more p x [] one le = omega (arith, one_from p x one le)
from_more p x (first ∷ xs) one le =
    elim (nat_le x first.epoch)
    as (λ t. times p (if t then first.place ∷ stamped_from x (xs ++ one ∷ []) else stamped_from x (xs ++ one ∷ []))
    ≡ times p (if t then first.place ∷ stamped_from x xs else stamped_from x xs) + hit one.place p) [
      | true ↦ omega (arith, from_more p x xs one le)
      | false ↦ from_more p x xs one le
    ]

pub from_head : (x : ℕ) (one : Stamped) (xs : List Stamped) → one.epoch < x → stamped_from x (one ∷ xs) ≡ stamped_from x xs
from_head x one xs lt =
    let is : nat_le x one.epoch ≡ false = grind arith in
    ap (λ (t : Bool). if t then one.place ∷ stamped_from x xs else stamped_from x xs) is

pub from_le : (p x : ℕ) (xs : List Stamped) → times p (stamped_from x xs) ≤ times p (places_stamped xs)
from_le p x [] = omega arith
from_le p x (first ∷ xs) =
    elim (nat_le x first.epoch)
    as (λ t. times p (if t then first.place ∷ stamped_from x xs else stamped_from x xs) ≤ hit first.place p + times p (places_stamped xs)) [
      | true ↦ omega (arith, from_le p x xs)
      | false ↦ omega (arith, from_le p x xs)
    ]

pub count_readable : (p x : ℕ) (log : LogState)
    → times p (readable x log) ≡ times p (places_kept log.kept) + (times p log.unlinked + times p (stamped_from x log.retired))
count_readable p x log =
    omega (
      arith,
      times_append p (places_kept log.kept) (log.unlinked ++ stamped_from x log.retired),
      times_append p log.unlinked (stamped_from x log.retired),
    )

pub readable_le : (p x : ℕ) (log : LogState) → times p (readable x log) ≤ times p (places_of log)
readable_le p x log = omega (arith, count p log, count_readable p x log, from_le p x log.retired)

-- WHICH PLACES STAND

pub standing_le : (places : List (Option Bytes)) (p : ℕ) → standing places p ≤ 1
standing_le places p = le (slice_get places p)
  where
    le : (o : Option (Option Bytes)) → stands o ≤ 1
    le None = omega arith
    le (Some None) = omega arith
    le (Some (Some page)) = omega arith

zero_suc : (n : ℕ) → zero ≢ suc n
zero_suc n is = omega arith

suc_zero : (n : ℕ) → suc n ≢ zero
suc_zero n is = omega arith

pub standing_grown : (places : List (Option Bytes)) (p : ℕ) → standing (places ++ None ∷ []) p ≡ standing places p + hit (length places) p
standing_grown [] zero = omega (arith, hit_same 0 0 refl)
standing_grown [] (suc p) = omega (arith, hit_other 0 (suc p) (suc_zero p))
standing_grown (x ∷ xs) zero = omega (arith, hit_other (suc (length xs)) 0 (zero_suc (length xs)))
standing_grown (x ∷ xs) (suc p) = omega (arith, standing_grown xs p, hit_suc (length xs) p)

pub standing_set : (places : List (Option Bytes)) (q : ℕ) (page : Bytes) → standing places q ≡ 1
    → (p : ℕ) → standing (set places q (Some page)) p + hit q p ≡ standing places p
standing_set [] q page is p = absurd (omega (arith, is))
standing_set (x ∷ xs) zero page is zero = omega (arith, is, hit_same 0 0 refl)
standing_set (x ∷ xs) zero page is (suc p) = omega (arith, hit_other 0 (suc p) (suc_zero p))
standing_set (x ∷ xs) (suc q) page is zero = omega (arith, hit_other (suc q) 0 (zero_suc q))
standing_set (x ∷ xs) (suc q) page is (suc p) = omega (arith, standing_set xs q page is p, hit_suc q p)

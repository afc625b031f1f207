-- What the loop of flushes and drops keeps.
use Rattle.std.proofs.Common.{◌≡◌, ◌⊎◌, ℕ, suc, ◌+◌, ◌-◌, ◌/◌, ◌<◌, ◌≤◌, cond, inl, inr, List, length, drop, Option, Some, None, [], ◌∷◌, refl, sym, ap, ◌∙◌, subst, arith, length-set, true, false}
use Rattle.std.specs.Bool.{OnFalse}
use Rattle.std.specs.Prelude.{Bool, Result, Ok, Err, OnErr, slice_index_or, IsSome, nat_lt, if◌then◌else◌}
use Rattle.std.proofs.lemmas.List.{get_or-set_other, length-drop, drop-drop}
use Rattle.std.proofs.lemmas.Bool.{cases_eq, cases_lt, lt-ltb, le-ltb}
use Rattle.words.specs.declared.limits.TheConstants.{FRAMES_MIN, WEIGHT_MAX}
use Rattle.hybrid.specs.declared.stripe.TheConstants.{CALL_PAGES, CLOSED_MIN, LAST_PAGE}
use Rattle.records.specs.declared.pages.TheConstants.{PAGE_SIZE, HEADER_SIZE}
use Rattle.records.specs.Page.{used_end}
use Rattle.frames.specs.Resident.{Resident, first_mutable, next_number, without_oldest}
use Rattle.hybrid.specs.HybridLog.{HybridLog, Kept, HasRoom, available, count_kept, expected, free, log_of, pages_for, receipt_of, tail_bytes, with_dropped, with_receipt}
use Rattle.hybrid.specs.declared.stripe.room.Purpose.{Purpose}
use Rattle.hybrid.specs.Reserving.{IsFlushed, IsReserved, KeepsBack, KeepsSpare, beside, frames_for, spare}
use Rattle.hybrid.proofs.Keeping.{count-more}

pub record IsReserving (old now : HybridLog) (before failures wanted : ℕ) : Type 0 where
  pub count : ℕ
  pub reserved : IsReserved old now count
  pub log : log_of now ≡ log_of old
  pub same : failures ≡ before
  pub few : count ≤ wanted - free old
  pub frames : free now ≡ free old + count
  pub left : available old ≤ available now
  pub due : expected old ≤ expected now
  pub tail : tail_bytes now ≡ tail_bytes old
  pub still : wanted ≤ free old → now ≡ old
  pub numbers : 0 < wanted → next_number now.resident ≤ LAST_PAGE

pub reserving-start : (p : HybridLog) (failures wanted : ℕ) → (0 < wanted → next_number p.resident ≤ LAST_PAGE) → IsReserving p p failures failures wanted
reserving-start p failures wanted numbers = record {
  count = 0;
  reserved = record {
    oldest = refl;
    resident = ap (λ (n : ℕ). record { oldest = n; pages = p.resident.pages; frames = p.resident.frames }) (omega arith);
    heads = refl;
    stripes = refl;
    places = refl;
    size = refl;
    still = λ number k e. e;
    others = λ number low. refl;
    counted = refl;
  };
  log = refl;
  same = refl;
  few = omega arith;
  frames = omega arith;
  left = omega arith;
  due = omega arith;
  tail = refl;
  still = λ enough. refl;
  numbers = numbers;
}

not-some : (o : Option Kept) (x : Kept) → o ≡ None → o ≡ Some x → ⊥
not-some None x a b = absurd cc
not-some (Some y) x a b = absurd cc

pub none-of : {X : Type 0} (o : Option X) → (IsSome o → ⊥) → o ≡ None
none-of None h = refl
none-of (Some x) h = absurd (h refl)

-- what a flush leaves of the receipts
record IsMore (now mid : HybridLog) : Type 0 where
  pub oldest : mid.oldest ≡ now.oldest
  pub resident : mid.resident ≡ now.resident
  pub heads : mid.heads ≡ now.heads
  pub stripes : mid.stripes ≡ now.stripes
  pub places : mid.places ≡ now.places
  pub size : length mid.kept ≡ length now.kept
  pub still : (number : ℕ) (k : Kept) → receipt_of now number ≡ Some k → receipt_of mid number ≡ Some k
  pub others : (number : ℕ) → now.resident.oldest < number → receipt_of mid number ≡ receipt_of now number
  pub counted : mid.unreleased + count_kept now.kept ≡ now.unreleased + count_kept mid.kept
  pub few : mid.unreleased ≤ now.unreleased + 1
  pub one : count_kept mid.kept ≤ count_kept now.kept + 1

more-none : (p : HybridLog) → IsMore p p
more-none p = record { oldest = refl; resident = refl; heads = refl; stripes = refl; places = refl; size = refl; still = λ number k e. e; others = λ number low. refl; counted = refl; few = omega arith; one = omega arith }

more-one : (p : HybridLog) (k : Kept) → p.oldest ≤ p.resident.oldest → p.resident.oldest - p.oldest < length p.kept → receipt_of p p.resident.oldest ≡ None → IsMore p (record (with_receipt p p.resident.oldest k) { unreleased = p.unreleased + 1 })
more-one p k live inside none = record {
  oldest = refl;
  resident = refl;
  heads = refl;
  stripes = refl;
  places = refl;
  size = length-set p.kept (p.resident.oldest - p.oldest) (Some k);
  still = λ number x e. elim (cases_eq (number - p.oldest) (p.resident.oldest - p.oldest)) [
    | inl at ↦ absurd (not-some (receipt_of p p.resident.oldest) x none (ap (λ (i : ℕ). slice_index_or p.kept i None) (sym at) ∙ e))
    | inr apart ↦ get_or-set_other p.kept (p.resident.oldest - p.oldest) (number - p.oldest) (Some k) None apart ∙ e
  ];
  others = λ number low. get_or-set_other p.kept (p.resident.oldest - p.oldest) (number - p.oldest) (Some k) None (omega (arith, low, live));
  counted = omega (arith, count-more p.kept (p.resident.oldest - p.oldest) k inside none);
  few = omega arith;
  one = omega (arith, count-more p.kept (p.resident.oldest - p.oldest) k inside none);
}

flushed-more : (now mid : HybridLog) → now.oldest ≤ now.resident.oldest → now.resident.oldest - now.oldest < length now.kept → IsFlushed now mid → IsMore now mid
flushed-more now mid live inside flushed = elim flushed.how [
  | inl same ↦ subst (λ (q : HybridLog). IsMore now q) (sym same) (more-none now)
  | inr k ↦ subst (λ (q : HybridLog). IsMore now q) (sym k.2) (more-one now k.0 live inside k.1)
]

-- the last page stays the last where the first of several leaves
last-stays : (l : List (List ℕ)) → 1 < length l → slice_index_or (drop 1 l) (length (drop 1 l) - 1) [] ≡ slice_index_or l (length l - 1) []
last-stays [] some = absurd (omega (arith, some))
last-stays (x ∷ []) some = absurd (omega (arith, some))
last-stays (x ∷ y ∷ l) some =
    let one : suc (length l) - 1 ≡ length l = omega arith in
    let two : suc (length l) ≡ suc (suc (length l)) - 1 = omega arith in
    ap (λ (i : ℕ). slice_index_or (y ∷ l) i []) one ∙ ap (λ (i : ℕ). slice_index_or (x ∷ y ∷ l) i []) two

-- a page before the mutable ones is not the tail page
before-tail : (r : Resident) → r.oldest < first_mutable r → FRAMES_MIN ≤ r.frames → 1 < length r.pages
before-tail r before enough = omega (arith, before, enough)

pub reserving-step : (old now mid next : HybridLog) (before failures failures_now wanted : ℕ) → IsReserving old now before failures wanted → free now < wanted → failures_now ≡ failures → now.oldest ≤ now.resident.oldest → now.oldest + length now.kept ≡ next_number now.resident → now.resident.oldest < first_mutable now.resident → FRAMES_MIN ≤ now.resident.frames → length now.resident.pages ≤ now.resident.frames
    → IsFlushed now mid → next ≡ with_dropped mid → log_of mid ≡ log_of now → log_of next ≡ log_of mid → IsReserving old next before failures_now wanted
reserving-step old now mid next before failures failures_now wanted h lacks fail live numbered before_mutable enough_frames fits flushed dropped log_mid log_next =
    let some = before-tail now.resident before_mutable enough_frames in
    let m = flushed-more now mid live (omega (arith, numbered, live, some)) flushed in
    let r = h.reserved in
    let resident_is : next.resident ≡ without_oldest now.resident = ap (λ (q : HybridLog). q.resident) dropped ∙ ap without_oldest m.resident in
    let count : length next.resident.pages ≡ length now.resident.pages - 1 = ap (λ (q : Resident). length q.pages) resident_is ∙ length-drop 1 now.resident.pages in
    let first : next.resident.oldest ≡ now.resident.oldest + 1 = ap (λ (q : Resident). q.oldest) resident_is in
    let frames : next.resident.frames ≡ now.resident.frames = ap (λ (q : Resident). q.frames) resident_is in
    record {
      count = h.count + 1;
      reserved = record {
        oldest = ap (λ (q : HybridLog). q.oldest) dropped ∙ m.oldest ∙ r.oldest;
        resident = resident_is ∙ ap without_oldest r.resident
            ∙ ap (λ (n : ℕ). record { oldest = n; pages = drop 1 (drop h.count old.resident.pages); frames = old.resident.frames }) (omega arith)
            ∙ ap (λ (l : List (List ℕ)). record { oldest = old.resident.oldest + (h.count + 1); pages = l; frames = old.resident.frames }) (drop-drop 1 h.count old.resident.pages);
        heads = ap (λ (q : HybridLog). q.heads) dropped ∙ m.heads ∙ r.heads;
        stripes = ap (λ (q : HybridLog). q.stripes) dropped ∙ m.stripes ∙ r.stripes;
        places = ap (λ (q : HybridLog). q.places) dropped ∙ m.places ∙ r.places;
        size = ap (λ (q : HybridLog). length q.kept) dropped ∙ m.size ∙ r.size;
        still = λ number k e. ap (λ (q : HybridLog). receipt_of q number) dropped ∙ m.still number k (r.still number k e);
        others = λ number low. ap (λ (q : HybridLog). receipt_of q number) dropped ∙ m.others number (omega (arith, low, first)) ∙ r.others number (omega (arith, low, first));
        counted = omega (arith, r.counted, m.counted, ap (λ (q : HybridLog). q.unreleased) dropped, ap (λ (q : HybridLog). count_kept q.kept) dropped);
      };
      log = log_next ∙ log_mid ∙ h.log;
      same = fail ∙ h.same;
      few = omega (arith, h.few, h.frames, lacks);
      frames = omega (arith, h.frames, count, frames, some, fits);
      left = omega (arith, h.left, count, frames, some, fits, m.few, m.places, ap (λ (q : HybridLog). q.places) dropped, ap (λ (q : HybridLog). q.unreleased) dropped);
      due = omega (arith, h.due, count, frames, some, fits, m.one, m.places, ap (λ (q : HybridLog). q.places) dropped, ap (λ (q : HybridLog). count_kept q.kept) dropped);
      tail = ap (λ (q : Resident). used_end (slice_index_or q.pages (length q.pages - 1) []) - HEADER_SIZE) resident_is
          ∙ ap (λ (l : List ℕ). used_end l - HEADER_SIZE) (last-stays now.resident.pages some) ∙ h.tail;
      still = λ enough. absurd (omega (arith, lacks, ap (λ (q : HybridLog). free q) (h.still enough), enough));
      numbers = λ any. omega (arith, h.numbers any, first, count, some);
    }

pub pages-some : (p : HybridLog) (weight : ℕ) → PAGE_SIZE - HEADER_SIZE < weight + tail_bytes p → weight / CLOSED_MIN + 1 ≡ pages_for p weight
pages-some p weight lt = let t : nat_lt (PAGE_SIZE - HEADER_SIZE) (weight + tail_bytes p) ≡ true = lt-ltb (PAGE_SIZE - HEADER_SIZE) (weight + tail_bytes p) lt in rw t refl

pub pages-none : (p : HybridLog) (weight : ℕ) → weight + tail_bytes p ≤ PAGE_SIZE - HEADER_SIZE → 0 ≡ pages_for p weight
pages-none p weight le = let t : nat_lt (PAGE_SIZE - HEADER_SIZE) (weight + tail_bytes p) ≡ false = le-ltb (PAGE_SIZE - HEADER_SIZE) (weight + tail_bytes p) le in rw t refl

-- the frames for these pages, where so many are available and so many are left beside them; and where none is opened, and so many are expected
abbrev pub frames_of : (pages hand left due rest : ℕ) → ℕ
frames_of pages hand left due rest =
    if nat_lt 0 pages then (if nat_lt hand (pages + left) then pages + left else pages) else (if nat_lt due rest then rest else 0)

pub tail-frames : (due rest : ℕ) → ((due < rest) × ((if nat_lt due rest then rest else 0) ≡ rest)) ⊎ ((rest ≤ due) × ((if nat_lt due rest then rest else 0) ≡ 0))
tail-frames due rest = elim (cases_lt due rest) [
  | inl lt ↦ inl (lt, ap (λ b. cond b rest 0) (lt-ltb due rest lt))
  | inr le ↦ inr (omega (arith, le), ap (λ b. cond b rest 0) (le-ltb due rest (omega (arith, le))))
]

-- how many frames are wanted
pub data Wanted (pages hand left due rest wanted : ℕ) : Type 0 where
  near : 0 < pages → hand < pages + left → wanted ≡ pages + left → Wanted pages hand left due rest wanted
  far : 0 < pages → pages + left ≤ hand → wanted ≡ pages → Wanted pages hand left due rest wanted
  scarce : pages ≡ 0 → due < rest → wanted ≡ rest → Wanted pages hand left due rest wanted
  ample : pages ≡ 0 → rest ≤ due → wanted ≡ 0 → Wanted pages hand left due rest wanted

frames-by : (pages hand left due rest : ℕ) → Wanted pages hand left due rest (frames_of pages hand left due rest)
frames-by pages hand left due rest = elim (cases_lt 0 pages) [
  | inr nothing ↦
      let outer : frames_of pages hand left due rest ≡ (if nat_lt due rest then rest else 0) =
      ap (λ b. cond b (cond (nat_lt hand (pages + left)) (pages + left) pages) (cond (nat_lt due rest) rest 0)) (le-ltb 0 pages (omega (arith, nothing))) in
      elim (tail-frames due rest) [
        | inl less ↦ scarce (omega (arith, nothing)) less.0 (outer ∙ less.1)
        | inr enough ↦ ample (omega (arith, nothing)) enough.0 (outer ∙ enough.1)
      ]
  | inl some ↦
      let outer : frames_of pages hand left due rest ≡ cond (nat_lt hand (pages + left)) (pages + left) pages =
      ap (λ b. cond b (cond (nat_lt hand (pages + left)) (pages + left) pages) (cond (nat_lt due rest) rest 0)) (lt-ltb 0 pages some) in
      elim (cases_lt hand (pages + left)) [
        | inl lt ↦ near some lt (outer ∙ ap (λ b. cond b (pages + left) pages) (lt-ltb hand (pages + left) lt))
        | inr le ↦ far some (omega (arith, le)) (outer ∙ ap (λ b. cond b (pages + left) pages) (le-ltb hand (pages + left) (omega (arith, le))))
      ]
]

pub frames-for : (p : HybridLog) (weight : ℕ) (purpose : Purpose)
    → Wanted (pages_for p weight) (available p) (beside purpose) (expected p) (spare purpose) (frames_for p weight purpose)
frames-for p weight purpose = frames-by (pages_for p weight) (available p) (beside purpose) (expected p) (spare purpose)

least-wanted : (pages hand left due rest wanted : ℕ) → Wanted pages hand left due rest wanted → pages ≤ wanted
least-wanted pages hand left due rest wanted (near some less is) = omega (arith, is)
least-wanted pages hand left due rest wanted (far some enough is) = omega (arith, is)
least-wanted pages hand left due rest wanted (scarce none less is) = omega (arith, none)
least-wanted pages hand left due rest wanted (ample none enough is) = omega (arith, none)

pub frames-least : (p : HybridLog) (weight : ℕ) (purpose : Purpose) → pages_for p weight ≤ frames_for p weight purpose
frames-least p weight purpose = least-wanted _ _ _ _ _ _ (frames-for p weight purpose)

-- where no page may leave its frame, the frames of any call's pages are free
pub frames-free : (r : Resident) (pages : ℕ) → first_mutable r ≤ r.oldest → pages ≤ CALL_PAGES → FRAMES_MIN ≤ r.frames → pages ≤ r.frames - length r.pages
frames-free r pages all few enough = omega (arith, all, few, enough)

pub on-err : {A E : Type 0} (r : Result A E) (P : Type 0) → P → OnErr r P
on-err (Ok x) P p = tt
on-err (Err e) P p = p

-- no place is left for the oldest page, and frames lack
pub needful : (p new : HybridLog) (wanted : ℕ) → new ≡ p → receipt_of p p.resident.oldest ≡ None → free p < wanted
    → (LAST_PAGE < next_number new.resident) ⊎ ((receipt_of new new.resident.oldest ≡ None) × (free new < wanted))
needful p new wanted same bare lacks =
    subst (λ (q : HybridLog). (LAST_PAGE < next_number q.resident) ⊎ ((receipt_of q q.resident.oldest ≡ None) × (free q < wanted))) (sym same) (inr (bare, lacks))

-- the loop has ended
pub ended : (b : Bool) (wanted result : ℕ) (p : HybridLog) → result ≡ wanted → b ≡ false → OnFalse b ((result ≤ free p) ⊎ (first_mutable p.resident ≤ p.resident.oldest))
    → (wanted ≤ free p) ⊎ (first_mutable p.resident ≤ p.resident.oldest)
ended true wanted result p is over or = absurd cc
ended false wanted result p is over or = elim or [ inl enough ↦ inl (omega (arith, is, enough)) | inr all ↦ inr all ]

-- and the frames for the pages are free
pub room-enough : (old now : HybridLog) (weight : ℕ) (purpose : Purpose) → FRAMES_MIN ≤ now.resident.frames → pages_for old weight ≤ CALL_PAGES
    → (frames_for old weight purpose ≤ free now) ⊎ (first_mutable now.resident ≤ now.resident.oldest) → pages_for old weight ≤ free now
room-enough old now weight purpose enough few over = elim over [
  | inl free ↦ omega (arith, free, frames-least old weight purpose)
  | inr all ↦ frames-free now.resident (pages_for old weight) all few enough
]

-- what is left, where no frame more is wanted, or no page may leave its frame
left-back : (pages hand left due rest wanted free_now now_hand : ℕ) → Wanted pages hand left due rest wanted → hand ≤ now_hand → free_now ≤ now_hand → wanted ≤ free_now → 0 < pages → pages + left ≤ now_hand
left-back pages hand left due rest wanted free_now now_hand (near some less is) more part enough any = omega (arith, is, part, enough)
left-back pages hand left due rest wanted free_now now_hand (far some enough is) more part free any = omega (arith, enough, more)
left-back pages hand left due rest wanted free_now now_hand (scarce none less is) more part enough any = absurd (omega (arith, none, any))
left-back pages hand left due rest wanted free_now now_hand (ample none rest_is is) more part enough any = absurd (omega (arith, none, any))

left-spare : (pages hand left due rest wanted free_now now_due : ℕ) → Wanted pages hand left due rest wanted → due ≤ now_due → free_now ≤ now_due → wanted ≤ free_now → pages ≡ 0 → rest ≤ now_due
left-spare pages hand left due rest wanted free_now now_due (near some less is) more part enough nothing = absurd (omega (arith, some, nothing))
left-spare pages hand left due rest wanted free_now now_due (far some enough is) more part free nothing = absurd (omega (arith, some, nothing))
left-spare pages hand left due rest wanted free_now now_due (scarce none less is) more part enough nothing = omega (arith, is, part, enough)
left-spare pages hand left due rest wanted free_now now_due (ample none enough is) more part free nothing = omega (arith, enough, more)

pub kept-back : (old now : HybridLog) (weight : ℕ) (purpose : Purpose) (before failures : ℕ) → IsReserving old now before failures (frames_for old weight purpose)
    → (frames_for old weight purpose ≤ free now) ⊎ (first_mutable now.resident ≤ now.resident.oldest) → 0 < pages_for old weight → KeepsBack now (pages_for old weight) (beside purpose)
kept-back old now weight purpose before failures h ended some = elim ended [
  | inr all ↦ inr all
  | inl enough ↦ inl (left-back _ _ _ _ _ _ (free now) (available now) (frames-for old weight purpose) h.left (omega arith) enough some)
]

pub kept-spare : (old now : HybridLog) (weight : ℕ) (purpose : Purpose) (before failures : ℕ) → IsReserving old now before failures (frames_for old weight purpose)
    → (frames_for old weight purpose ≤ free now) ⊎ (first_mutable now.resident ≤ now.resident.oldest) → pages_for old weight ≡ 0 → KeepsSpare now (spare purpose)
kept-spare old now weight purpose before failures h ended nothing = elim ended [
  | inr all ↦ inr all
  | inl enough ↦ inl (left-spare _ _ _ _ _ _ (free now) (expected now) (frames-for old weight purpose) h.due (omega arith) enough nothing)
]

pub room-reserved : (old now : HybridLog) (weight : ℕ) (purpose : Purpose) (before failures : ℕ) → weight ≤ WEIGHT_MAX → IsReserving old now before failures (frames_for old weight purpose) → pages_for old weight ≤ free now → HasRoom now weight
room-reserved old now weight purpose before failures light h enough = elim (cases_lt (PAGE_SIZE - HEADER_SIZE) (weight + tail_bytes old)) [
  | inl lt ↦
      let pages = pages-some old weight lt in
      record { room = inr (record { frames = inr (omega (arith, pages, enough)); numbers = omega (arith, h.numbers (omega (arith, pages, frames-least old weight purpose)), light) }) }
  | inr le ↦ record { room = inl (omega (arith, le, h.tail)) }
]

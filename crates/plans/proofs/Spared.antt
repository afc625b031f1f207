-- Making room leaves as much: the bytes of the tail page stay as many, and no fewer frames are available, nor are fewer expected.
use Rattle.std.proofs.Common.{◌≡◌, ◌≢◌, ◌∙◌, inl, inr, ⊎_elim, ℕ, zero, suc, ◌+◌, ◌-◌, ◌/◌, ◌<◌, ◌≤◌, Bool, true, false, List, [], ◌∷◌, length, Option, Some, None, IsSome, cond, refl, sym, ap, subst, arith}
use Rattle.std.specs.Prelude.{nat_lt, slice_index_or}
use Rattle.std.proofs.lemmas.Bool.{cases_eq, cases_lt, le-ltb, lt-ltb}
use Rattle.std.proofs.lemmas.List.{length-drop}
use Rattle.frames.specs.Resident.{Resident}
use Rattle.records.specs.declared.pages.TheConstants.{HEADER_SIZE, PAGE_SIZE}
use Rattle.hybrid.specs.declared.stripe.TheConstants.{CLOSED_MIN}
use Rattle.hybrid.specs.declared.stripe.room.Purpose.{Purpose}
use Rattle.hybrid.specs.HybridLog.{HybridLog, IsHybridLog, Kept, available, cold, count_kept, expected, pages_for, tail_bytes}
use Rattle.hybrid.specs.Reserving.{IsReserved, KeepsBack, beside, frames_for, spare}
use Rattle.shards.specs.declared.freeing.Freed.{Freed}
use Rattle.shards.specs.declared.shard.Shard.{Shard}
use Rattle.shards.specs.Counted.{Counted}
use Rattle.shards.specs.Freeing.{FreesAt, HasFreed}
use Rattle.shards.specs.Rooms.{LacksRoom, LacksRoomAt, LeavesFrames, LeavesFramesAt}
use Rattle.shards.specs.Shards.{logs_of, shard_counted, shard_log}
use Rattle.words.specs.Store.{Write}
use Rattle.plans.specs.Lacking.{LacksShareAt, KeepRoom, KeepsRoom}
use Rattle.plans.proofs.Logs.{log_at, logs_as}
use Rattle.plans.proofs.Stores.{some_is}

-- RECEIPTS

first_most : (x : Option Kept) (l : List (Option Kept)) → count_kept (x ∷ l) ≤ count_kept l + 1
first_most None l = omega arith
first_most (Some k) l = omega arith

first_least : (x : Option Kept) (l : List (Option Kept)) → count_kept l ≤ count_kept (x ∷ l)
first_least None l = omega arith
first_least (Some k) l = omega arith

first_some : (x : Option Kept) (l : List (Option Kept)) → IsSome x → count_kept (x ∷ l) ≡ count_kept l + 1
first_some None l some = absurd (cc some)
first_some (Some k) l some = omega arith

first_same : (x : Option Kept) (l m : List (Option Kept)) → count_kept l ≤ count_kept m → count_kept (x ∷ l) ≤ count_kept (x ∷ m)
first_same None l m less = less
first_same (Some k) l m less = omega (arith, less)

-- where each page before some has a receipt, and those after these have what they had, no more receipts are kept than there are of these
count_more : (later before : List (Option Kept)) (first more : ℕ) → length later ≡ length before → ((i : ℕ) → i < first → IsSome (slice_index_or before i None))
    → ((i : ℕ) → first + more ≤ i → i < length before → slice_index_or later i None ≡ slice_index_or before i None) → count_kept later ≤ count_kept before + more
count_more [] before first more size some others = omega arith
count_more (y ∷ later) [] first more size some others = absurd (omega (arith, size))
count_more (y ∷ later) (x ∷ before) (suc first) more size some others =
    let rest : count_kept later ≤ count_kept before + more =
    count_more later before first more (omega (arith, size)) (λ i below. some (suc i) (omega (arith, below))) (λ i above below. others (suc i) (omega (arith, above)) (omega (arith, below))) in
    omega (arith, rest, first_most y later, first_some x before (some 0 (omega arith)))
count_more (y ∷ later) (x ∷ before) zero (suc more) size some others =
    let rest : count_kept later ≤ count_kept before + more =
    count_more later before 0 more (omega (arith, size)) (λ i below. absurd (omega (arith, below))) (λ i above below. others (suc i) (omega (arith, above)) (omega (arith, below))) in
    omega (arith, rest, first_most y later, first_least x before)
count_more (y ∷ later) (x ∷ before) zero zero size some others =
    let rest : count_kept later ≤ count_kept before + 0 =
    count_more later before 0 0 (omega (arith, size)) (λ i below. absurd (omega (arith, below))) (λ i above below. others (suc i) (omega (arith, above)) (omega (arith, below))) in
    let same : y ≡ x = others 0 (omega arith) (omega arith) in
    let less : count_kept (x ∷ later) ≤ count_kept (x ∷ before) = first_same x later before (omega (arith, rest)) in
    omega (arith, less, ap (λ (z : Option Kept). count_kept (z ∷ later)) same)

-- ONE LOG

pub spared_same : (p : HybridLog) → KeepsRoom p p
spared_same p = record { tail = refl; frames = omega arith; to_come = omega arith }

pub spared_both : (p q r : HybridLog) → KeepsRoom p q → KeepsRoom q r → KeepsRoom p r
spared_both p q r one two = record { tail = two.tail ∙ one.tail; frames = omega (arith, one.frames, two.frames); to_come = omega (arith, one.to_come, two.to_come) }

-- as many frames became free at least as receipts are kept
spared_by : (p q : HybridLog) (left more : ℕ) → tail_bytes q ≡ tail_bytes p → q.resident.frames ≡ p.resident.frames → length q.resident.pages ≡ left → left + more ≡ length p.resident.pages → length p.resident.pages ≤ p.resident.frames
    → q.places ≡ p.places → q.unreleased + count_kept p.kept ≡ p.unreleased + count_kept q.kept → count_kept q.kept ≤ count_kept p.kept + more → KeepsRoom p q
spared_by p q left more tail frames pages less fits places counted few = record {
  tail = tail;
  frames = omega (arith, frames, pages, less, fits, places, counted, few);
  to_come = omega (arith, frames, pages, less, fits, places, few);
}

pub spared_reserved : (p q : HybridLog) (count : ℕ) → IsHybridLog p → IsReserved p q count → tail_bytes q ≡ tail_bytes p → KeepsRoom p q
spared_reserved p q count is has tail =
    let frames : q.resident.frames ≡ p.resident.frames = ap (λ (r : Resident). r.frames) has.resident in
    let oldest : q.resident.oldest ≡ p.resident.oldest + count = ap (λ (r : Resident). r.oldest) has.resident in
    let pages : length q.resident.pages ≡ length p.resident.pages - count = ap (λ (r : Resident). length r.pages) has.resident ∙ length-drop count p.resident.pages in
    ⊎_elim
    (λ (less : count < length p.resident.pages). spared_by p q (length p.resident.pages - count) count tail frames pages (omega (arith, less)) is.fits has.places has.counted
    (count_more q.kept p.kept (cold p) count has.size is.cold_kept (λ i above below.
    ap (λ (k : ℕ). slice_index_or q.kept k None) (omega (arith, has.oldest)) ∙ has.others (p.oldest + i) (omega (arith, above, oldest, is.live))
    ∙ ap (λ (k : ℕ). slice_index_or p.kept k None) (omega arith))))
    (λ (all : length p.resident.pages ≤ count). spared_by p q 0 (length p.resident.pages) tail frames (omega (arith, pages, all)) (omega arith) is.fits has.places has.counted
    (count_more q.kept p.kept (cold p) (length p.resident.pages) has.size is.cold_kept (λ i above below. absurd (omega (arith, above, below, is.numbered, is.live)))))
    (cases_lt count (length p.resident.pages))

-- places were released
pub spared_freed : (old new : Counted) (freed : Freed) → HasFreed old freed new → KeepsRoom old.log new.log
spared_freed old new freed has =
    subst (λ (q : HybridLog). KeepsRoom old.log q) (sym has.log) (record { tail = refl; frames = omega (arith, has.fewer); to_come = omega arith })

-- WHAT IS LEFT AND LACKING SINCE

pages_same : (p q : HybridLog) (weight : ℕ) → tail_bytes q ≡ tail_bytes p → pages_for q weight ≡ pages_for p weight
pages_same p q weight tail = ap (λ (t : ℕ). cond (nat_lt (PAGE_SIZE - HEADER_SIZE) (weight + t)) (weight / CLOSED_MIN + 1) 0) tail

choose_less : (a b m x y : ℕ) → a ≤ b → y ≤ x → cond (nat_lt b m) x y ≤ cond (nat_lt a m) x y
choose_less a b m x y more less = ⊎_elim
    (λ (under : b < m). omega (arith, ap (λ (t : Bool). cond t x y) (lt-ltb b m under), ap (λ (t : Bool). cond t x y) (lt-ltb a m (omega (arith, under, more)))))
    (λ (over : m ≤ b). ⊎_elim
    (λ (under : a < m). omega (arith, ap (λ (t : Bool). cond t x y) (le-ltb b m over), ap (λ (t : Bool). cond t x y) (lt-ltb a m under), less))
    (λ (still : m ≤ a). omega (arith, ap (λ (t : Bool). cond t x y) (le-ltb b m over), ap (λ (t : Bool). cond t x y) (le-ltb a m still)))
    (cases_lt a m))
    (cases_lt b m)

both_less : (t : Bool) (x u y w : ℕ) → x ≤ u → y ≤ w → cond t x y ≤ cond t u w
both_less true x u y w one two = one
both_less false x u y w one two = two

-- no more frames have to be free
frames_less : (p q : HybridLog) (weight : ℕ) (purpose : Purpose) → KeepsRoom p q → frames_for q weight purpose ≤ frames_for p weight purpose
frames_less p q weight purpose spared =
    let wanted : ℕ = pages_for p weight in
    subst (λ (k : ℕ). cond (nat_lt 0 k) (cond (nat_lt (available q) (k + beside purpose)) (k + beside purpose) k) (cond (nat_lt (expected q) (spare purpose)) (spare purpose) 0) ≤ frames_for p weight purpose)
    (sym (pages_same p q weight spared.tail))
    (both_less (nat_lt 0 wanted) _ _ _ _ (choose_less (available p) (available q) (wanted + beside purpose) (wanted + beside purpose) wanted spared.frames (omega arith))
    (choose_less (expected p) (expected q) (spare purpose) (spare purpose) 0 spared.to_come (omega arith)))

lacking_since : (p q r : HybridLog) (weight : ℕ) (purpose : Purpose) → KeepsRoom p q → LacksRoom weight purpose q r → LacksRoom weight purpose p r
lacking_since p q r weight purpose spared lacks = record {
  wanted = ⊎_elim (λ opens. inl (subst (λ (k : ℕ). 0 < k) (pages_same p q weight spared.tail) opens)) (λ few. inr (omega (arith, few, spared.to_come))) lacks.wanted;
  lacks = ⊎_elim (λ last. inl last) (λ few. inr (few.0, omega (arith, few.1, frames_less p q weight purpose spared))) lacks.lacks;
}

leaving_since : (p q r : HybridLog) (weight : ℕ) (purpose : Purpose) → KeepsRoom p q → LeavesFrames weight purpose q r → LeavesFrames weight purpose p r
leaving_since p q r weight purpose spared left =
    let same = pages_same p q weight spared.tail in record {
      opening = λ opens. subst (λ (k : ℕ). KeepsBack r k (beside purpose)) same (left.opening (subst (λ (k : ℕ). 0 < k) (sym same) opens));
      fitting = λ none. left.fitting (same ∙ none);
    }

-- EACH LOG

pub spare_same : (a b : ℕ → Option HybridLog) → ((i : ℕ) → b i ≡ a i) → KeepRoom a b
spare_same a b same i new is = (new, sym (same i) ∙ is, spared_same new)

pub spare_both : (a b c : ℕ → Option HybridLog) → KeepRoom a b → KeepRoom b c → KeepRoom a c
spare_both a b c one two i new is =
    let mid = two i new is in
    let was = one i mid.0 mid.1 in
    (was.0, was.1, spared_both was.0 mid.0 new was.2 mid.2)

module _ {R : Type 0} where
  -- one part changed
  pub spare_one : (before later : ℕ → Option (Shard R)) (i : ℕ) (old new : Shard R) → before i ≡ Some old → later i ≡ Some new → ((j : ℕ) → j ≢ i → later j ≡ before j)
      → KeepsRoom (shard_log old) (shard_log new) → KeepRoom (logs_of before) (logs_of later)
  spare_one before later i old new was is others spared j log at = ⊎_elim
      (λ here.
      let log_is : shard_log new ≡ log = some_is (shard_log new) log (logs_of later i) (log_at later i new is) (sym (ap (logs_of later) here) ∙ at) in
      (shard_log old, ap (logs_of before) here ∙ log_at before i old was, subst (λ (q : HybridLog). KeepsRoom (shard_log old) q) log_is spared))
      (λ ne. (log, sym (logs_as before later j (others j ne)) ∙ at, spared_same log))
      (cases_eq j i)

  pub spare_freed : (before later : ℕ → Option (Shard R)) (stripe : ℕ) (freed : Freed) → FreesAt stripe freed before later → KeepRoom (logs_of before) (logs_of later)
  spare_freed before later stripe freed frees =
      spare_one before later stripe frees.old frees.new frees.was frees.is frees.others (spared_freed (shard_counted frees.old) (shard_counted frees.new) freed frees.how)

-- what a stripe lacked, and what it leaves, since the beginning
pub lacks_since : (a b c : ℕ → Option HybridLog) (stripe weight : ℕ) (purpose : Purpose) → KeepRoom a b → KeepRoom b c → LacksRoomAt stripe weight purpose b c → LacksRoomAt stripe weight purpose a c
lacks_since a b c stripe weight purpose one two lacks old new was is =
    let mid = two stripe new is in
    let first = one stripe mid.0 mid.1 in
    subst (λ (p : HybridLog). LacksRoom weight purpose p new) (some_is first.0 old (a stripe) first.1 was) (lacking_since first.0 mid.0 new weight purpose first.2 (lacks mid.0 new mid.1 is))

pub left_since : (a b c : ℕ → Option HybridLog) (stripe weight : ℕ) (purpose : Purpose) → KeepRoom a b → KeepRoom b c → LeavesFramesAt stripe weight purpose b c → LeavesFramesAt stripe weight purpose a c
left_since a b c stripe weight purpose one two left old new was is =
    let mid = two stripe new is in
    let first = one stripe mid.0 mid.1 in
    subst (λ (p : HybridLog). LeavesFrames weight purpose p new) (some_is first.0 old (a stripe) first.1 was) (leaving_since first.0 mid.0 new weight purpose first.2 (left mid.0 new mid.1 is))

-- and where the log stayed afterwards
pub lacks_until : (a b c : ℕ → Option HybridLog) (stripe weight : ℕ) (purpose : Purpose) → c stripe ≡ b stripe → LacksRoomAt stripe weight purpose a b → LacksRoomAt stripe weight purpose a c
lacks_until a b c stripe weight purpose same lacks old new was is = lacks old new was (sym same ∙ is)

-- the same of a stripe's share of writes
pub share_since : (n stripe : ℕ) (Made : List Write → Type 0) (a b c : ℕ → Option HybridLog) → KeepRoom a b → KeepRoom b c → LacksShareAt Made n b c stripe → LacksShareAt Made n a c stripe
share_since n stripe Made a b c one two met =
    record { writes = met.writes; made = met.made; light = met.light; below = met.below; written = met.written; lacks = lacks_since a b c stripe _ _ one two met.lacks }

pub share_until : (n stripe : ℕ) (Made : List Write → Type 0) (a b c : ℕ → Option HybridLog) → c stripe ≡ b stripe → LacksShareAt Made n a b stripe → LacksShareAt Made n a c stripe
share_until n stripe Made a b c same met =
    record { writes = met.writes; made = met.made; light = met.light; below = met.below; written = met.written; lacks = lacks_until a b c stripe _ _ same met.lacks }

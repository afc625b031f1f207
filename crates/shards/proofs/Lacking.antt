-- What the room that was made left as it was, and where there is none for what lives in the oldest page.
use Rattle.std.proofs.Common.{◌≡◌, ◌∙◌, ◌+◌, ◌/◌, ◌-◌, ◌≤◌, ⊎_elim, inl, inr, ℕ, Bool, true, false, cond, Some, Result, Ok, Err, OnErr, nat_lt, refl, sym, ap, subst, arith}
use Rattle.records.specs.declared.pages.TheConstants.{PAGE_SIZE, HEADER_SIZE}
use Rattle.records.specs.Records.{records_of}
use Rattle.hybrid.specs.declared.stripe.TheConstants.{CLOSED_MIN}
use Rattle.hybrid.specs.declared.stripe.room.Purpose.{Purpose}
use Rattle.hybrid.specs.declared.stripe.room.Purpose.TheVariants as purpose
use Rattle.hybrid.specs.HybridLog.{HybridLog, Kept, available, expected, log_of, pages_for, receipt_of, shown_page, tail_bytes}
use Rattle.hybrid.specs.Log.{Log}
use Rattle.hybrid.specs.Reserving.{frames_for}
use Rattle.hybrid.specs.Weighing.{live_weight, oldest_weight}
use Rattle.shards.specs.Cleaning.{KeepsRecords}
use Rattle.shards.specs.Counted.{Counted}
use Rattle.shards.specs.Freeing.{HasFreed}
use Rattle.shards.specs.Rooms.{HasNoRoom, LacksRoom, ShedsFew}
use Rattle.shards.specs.declared.freeing.Freed.{Freed}

pub keeps_none : (p : HybridLog) → KeepsRecords p p
keeps_none p = record { records = refl; tail = refl; oldest = refl; kept = λ kept has. has }

pub keeps_both : (a b c : HybridLog) → KeepsRecords a b → KeepsRecords b c → KeepsRecords a c
keeps_both a b c one two = record {
  records = two.records ∙ one.records;
  tail = two.tail ∙ one.tail;
  oldest = two.oldest ∙ one.oldest;
  kept = λ kept has. two.kept kept (one.kept kept has);
}

-- pages left their frames
pub keeps_shed : (weight : ℕ) (purpose : Purpose) (old new : HybridLog) → ShedsFew weight purpose old new → log_of new ≡ log_of old → tail_bytes new ≡ tail_bytes old → KeepsRecords old new
keeps_shed weight purpose old new shed records tail = record {
  records = records;
  tail = tail;
  oldest = shed.reserved.oldest;
  kept = λ kept has. subst (λ (n : ℕ). receipt_of new n ≡ Some kept) (sym shed.reserved.oldest) (shed.reserved.still old.oldest kept has);
}

-- places were released
pub keeps_freed : (old new : Counted) (freed : Freed) → HasFreed old freed new → KeepsRecords old.log new.log
keeps_freed old new freed has = subst (λ (p : HybridLog). KeepsRecords old.log p) (sym has.log) (record { records = refl; tail = refl; oldest = refl; kept = λ kept is. is })

-- what lives in the oldest page weighs as much
pub weighs_same : (old new : HybridLog) (kept : Kept) → receipt_of old old.oldest ≡ Some kept → KeepsRecords old new → oldest_weight new ≡ oldest_weight old
weighs_same old new kept has keeps =
    ap (λ (l : Log). live_weight l new.oldest (records_of (shown_page (receipt_of new new.oldest)))) keeps.records
    ∙ ap (λ (n : ℕ). live_weight (log_of old) n (records_of (shown_page (receipt_of new new.oldest)))) keeps.oldest
    ∙ ap (λ o. live_weight (log_of old) old.oldest (records_of (shown_page o))) (keeps.kept kept has ∙ sym has)

same_pages : (old new : HybridLog) (weight : ℕ) → tail_bytes new ≡ tail_bytes old → pages_for new weight ≡ pages_for old weight
same_pages old new weight tail = ap (λ (t : ℕ). cond (nat_lt (PAGE_SIZE - HEADER_SIZE) (weight + t)) (weight / CLOSED_MIN + 1) 0) tail

by_cases : (b c d : Bool) (k : ℕ) → cond b (cond c (k + 0) k) (cond d 0 0) ≤ k
by_cases true true d k = omega arith
by_cases true false d k = omega arith
by_cases false c true k = omega arith
by_cases false c false k = omega arith

-- the cleaner leaves no frames for others
frames_clean : (p : HybridLog) (weight : ℕ) → frames_for p weight purpose.Clean ≤ pages_for p weight
frames_clean p weight = by_cases (nat_lt 0 (pages_for p weight)) (nat_lt (available p) (pages_for p weight + 0)) (nat_lt (expected p) 0) (pages_for p weight)

-- where the cleaner's room cannot be made, there is none
pub no_room : (weight : ℕ) (old new : HybridLog) → tail_bytes new ≡ tail_bytes old → LacksRoom weight purpose.Clean old new → HasNoRoom new weight
no_room weight old new tail lacks =
    let same : pages_for new weight ≡ pages_for old weight = same_pages old new weight tail in
    let few : frames_for old weight purpose.Clean ≤ pages_for old weight = frames_clean old weight in
    record {
      opens = ⊎_elim (λ some. omega (arith, some, same)) (λ none. absurd (omega (arith, none))) lacks.wanted;
      lacks = ⊎_elim (λ last. inl last) (λ none. inr (none.0, omega (arith, none.1, same, few))) lacks.lacks;
    }

-- what is so whatever came of a call is so where it failed
pub where_failed : {A E : Type 0} (r : Result A E) (T : Type 0) → T → OnErr r T
where_failed (Ok a) T t = tt
where_failed (Err e) T t = t

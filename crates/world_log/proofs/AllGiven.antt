-- Receipts of a stripe are those that the device gave, step by step.
use Rattle.std.proofs.Common.{◌≡◌, ◌⊎◌, ℕ, zero, suc, ◌+◌, ◌-◌, Bool, true, false, List, [], ◌∷◌, ◌++◌, length, get_or, set, replicate, Option, Some, None, refl, sym, ap, subst, ◌∙◌, inl, inr}
use Rattle.std.specs.Prelude.{slice_get, slice_index_or}
use Rattle.std.specs.Bool.{OnTrue, OnFalse}
use Rattle.std.proofs.lemmas.List.{get_or-drop}
use Rattle.words.specs.Store.{Bytes}
use Rattle.hybrid.specs.HybridLog as hybrid
use Rattle.hybrid.specs.HybridLog.{HybridLog, Kept, receipt_of}
use Rattle.hybrid.specs.Shedding as trace
use Rattle.hybrid.specs.Staging.{IsUnlinked}
use Rattle.frames.specs.Resident.{page_of}
use Rattle.world_model.specs.Places.{Each}
use Rattle.world_log.specs.Places.{Receipt, Shelf, Shelves, Wrote, flag, view, with_shelf}
use Rattle.shards.specs.Counted.{Counted, HasLanded, HasUnlinked, with_flight}
use Rattle.world_log.specs.Beside.{Beside, DoesDrain, DoesRelease, DoesRetire, DoesWrite, IsWritten, beside_of}
use Rattle.world_log.specs.declared.queues.Queues.{Queues}
use Rattle.world_log.specs.Given.{IsGiven, IsGivenKept, AreGivenKept, IsGivenBy, AreAllGiven, StaysGiven, KeepsGiven}
use Rattle.world_log.specs.declared.queues.Flushing.{Flushing}
use Rattle.world_log.specs.declared.queues.Flushing.TheVariants as has
use Rattle.world_log.specs.PlaceLaws.{same_flag}
use Rattle.world_log.proofs.GivenSteps.{given_written, given_released}

-- LISTS

each_map : {A : Type 0} (P Q : A → Type 0) (xs : List A) → ((x : A) → P x → Q x) → Each P xs → Each Q xs
each_map P Q [] goes each = tt
each_map P Q (x ∷ xs) goes each = (goes x each.0, each_map P Q xs goes each.1)

each_last : {A : Type 0} (P : A → Type 0) (xs : List A) (x : A) → Each P xs → P x → Each P (xs ++ x ∷ [])
each_last P [] x each one = (one, tt)
each_last P (y ∷ xs) x each one = (each.0, each_last P xs x each.1 one)

-- KEPT RECEIPTS

pub kept_as : (device : Shelves) (old new : HybridLog) → new.kept ≡ old.kept → AreGivenKept old device → AreGivenKept new device
kept_as device old new same given i kept is = given i kept (ap (λ (l : List (Option Kept)). slice_index_or l i None) (sym same) ∙ is)

set_cases : (l : List (Option Kept)) (i j : ℕ) (k x : Kept) → slice_index_or (set l i (Some k)) j None ≡ Some x → (x ≡ k) ⊎ (slice_index_or l j None ≡ Some x)
set_cases [] i j k x is = inr is
set_cases (one ∷ l) zero zero k x is = inl (cc is)
set_cases (one ∷ l) zero (suc j) k x is = inr is
set_cases (one ∷ l) (suc i) zero k x is = inr is
set_cases (one ∷ l) (suc i) (suc j) k x is = set_cases l i j k x is

kept_view : (device : Shelves) (r : Receipt) → IsGiven device r → IsGivenKept device (view r)
kept_view device r given = record {
  given = record { shelf = given.shelf; there = given.there; shows = given.shows; fresh = refl };
  identity = ap (λ (t : Bool). r.place ∷ flag t ∷ r.page) given.fresh;
}

kept_receipt : (device : Shelves) (old : HybridLog) (number : ℕ) (r : Receipt) → IsGiven device r → AreGivenKept old device
    → AreGivenKept (hybrid.with_receipt old number (view r)) device
kept_receipt device old number r given all i kept is = elim (set_cases old.kept (number - old.oldest) i (view r) kept is) as (λ _. IsGivenKept device kept) [
  | inl same ↦ subst (IsGivenKept device) (sym same) (kept_view device r given)
  | inr was ↦ all i kept was
]

pub kept_stays : (old new : Shelves) (p : HybridLog) → StaysGiven old new → AreGivenKept p old → AreGivenKept p new
kept_stays old new p stays all i kept is = record { given = stays _ (all i kept is).given; identity = (all i kept is).identity }

-- where there were none at the end
pub some_front : (l : List (Option Kept)) (n j : ℕ) (x : Kept) → slice_index_or (l ++ replicate n None) j None ≡ Some x → slice_index_or l j None ≡ Some x
some_front [] zero j x is = is
some_front [] (suc n) zero x is = absurd (cc is)
some_front [] (suc n) (suc j) x is = absurd (never n j x is)
  where
    never : (n j : ℕ) (x : Kept) → slice_index_or (replicate n None) j None ≡ Some x → ⊥
    never zero j x is = cc is
    never (suc n) zero x is = cc is
    never (suc n) (suc j) x is = never n j x is
some_front (one ∷ l) n zero x is = is
some_front (one ∷ l) n (suc j) x is = some_front l n j x is

kept_left : (device : Shelves) (old new : HybridLog) (weight : ℕ) → IsUnlinked old new weight → AreGivenKept old device → AreGivenKept new device
kept_left device old new weight left all i kept is =
    all (1 + i) kept
    (some_front old.kept left.opened (1 + i) kept
    (sym (get_or-drop 1 (old.kept ++ replicate left.opened None) i None)
    ∙ ap (λ (l : List (Option Kept)). slice_index_or l i None) (sym left.kept) ∙ is))

-- ALL OF A STRIPE

by_stays : (old new : Shelves) (f : Flushing) → StaysGiven old new → IsGivenBy old f → IsGivenBy new f
by_stays old new has.Nothing stays given = tt
by_stays old new (has.Copied number page) stays given = tt
by_stays old new (has.Wrote number page r) stays given = stays r given

pub all_stays : (old new : Shelves) (p : HybridLog) (beside : Beside) → StaysGiven old new → AreAllGiven old p beside → AreAllGiven new p beside
all_stays old new p beside stays given = record {
  kept = kept_stays old new p stays given.kept;
  flushing = by_stays old new beside.flushing stays given.flushing;
  unlinked =
      each_map (IsGivenKept old) (IsGivenKept new) beside.unlinked
      (λ one was. record { given = stays _ was.given; identity = was.identity }) given.unlinked;
  retired =
      each_map (λ (one : Receipt × ℕ). IsGiven old one.0) (λ (one : Receipt × ℕ). IsGiven new one.0) beside.retired
      (λ one was. stays one.0 was) given.retired;
  drained =
      each_map (λ (one : Receipt × ℕ). IsGiven old one.0) (λ (one : Receipt × ℕ). IsGiven new one.0) beside.drained
      (λ one was. stays one.0 was) given.drained;
}

pub copy_given : (old new : Counted) (queues : Queues) (number : ℕ) (page : _) → new ≡ with_flight old
    → KeepsGiven old.log (beside_of old queues) new.log (beside_of new (record queues { flushing = has.Copied number page }))
copy_given old new queues number page is device given =
    subst (λ (x : Counted). AreAllGiven device x.log (beside_of x (record queues { flushing = has.Copied number page }))) (sym is)
    (record { kept = given.kept; flushing = tt; unlinked = given.unlinked; retired = given.retired; drained = given.drained })

pub landed_given : (old new : Counted) (queues : Queues) (number : ℕ) (page : _) (r : Receipt) (bytes : List ℕ) → queues.flushing ≡ has.Wrote number page r
    → HasLanded old number bytes (view r) new → KeepsGiven old.log (beside_of old queues) new.log (beside_of new (record queues { flushing = has.Nothing }))
landed_given old new queues number page r bytes is landed device given =
    let one : IsGiven device r = subst (IsGivenBy device) is given.flushing in
    elim landed.how [
      | inl kept ↦
          subst (λ (x : Counted). AreAllGiven device x.log (beside_of x (record queues { flushing = has.Nothing }))) (sym kept.1)
          (record {
            kept = kept_receipt device old.log number r one given.kept;
            flushing = tt;
            unlinked = given.unlinked;
            retired = given.retired;
            drained = given.drained;
          })
      | inr late ↦
          subst (λ (x : Counted). AreAllGiven device x.log (beside_of x (record queues { flushing = has.Nothing }))) (sym late.1)
          (record {
            kept = given.kept;
            flushing = tt;
            unlinked = each_last (IsGivenKept device) old.unlinked (view r) given.unlinked (kept_view device r one);
            retired = given.retired;
            drained = given.drained;
          })
    ]

pub drop_given : (old new : Counted) (queues : Queues) (t : Bool) → OnTrue t (new ≡ record old { log = hybrid.with_dropped old.log }) → OnFalse t (new ≡ old)
    → KeepsGiven old.log (beside_of old queues) new.log (beside_of new queues)
drop_given old new queues true yes_is no_is device given =
    subst (λ (x : Counted). AreAllGiven device x.log (beside_of x queues)) (sym yes_is)
    (record { kept = given.kept; flushing = given.flushing; unlinked = given.unlinked; retired = given.retired; drained = given.drained })
drop_given old new queues false yes_is no_is device given = subst (λ (x : Counted). AreAllGiven device x.log (beside_of x queues)) (sym no_is) given

pub clean_given : (old new : Counted) (queues : Queues) (weight : ℕ) → HasUnlinked old new weight
    → KeepsGiven old.log (beside_of old queues) new.log (beside_of new queues)
clean_given old new queues weight done device given = record {
  kept = kept_left device old.log new.log weight done.left given.kept;
  flushing = given.flushing;
  unlinked =
      subst (Each (IsGivenKept device)) (sym (ap (λ (x : Counted). x.unlinked) done.is))
      (each_last (IsGivenKept device) old.unlinked done.kept given.unlinked (given.kept (old.log.oldest - old.log.oldest) done.kept done.had));
  retired = given.retired;
  drained = given.drained;
}

-- ROOM

pub wrote_stays : (before after : Shelves) (page : Bytes) (r : Receipt) → Wrote before page r after → StaysGiven before after
wrote_stays before after page r wrote receipt given =
    let one = given_written before receipt page given in
    record {
      shelf = one.shelf;
      there = ap (λ (d : Shelves). slice_get d.shelves receipt.place) wrote.1 ∙ one.there;
      shows = one.shows;
      fresh = one.fresh;
    }

get_last : (shelves : List Shelf) (shelf : Shelf) → slice_get (shelves ++ shelf ∷ []) (length shelves) ≡ Some shelf
get_last [] shelf = refl
get_last (one ∷ shelves) shelf = get_last shelves shelf

pub wrote_given : (before after : Shelves) (page : Bytes) (r : Receipt) → Wrote before page r after → IsGiven after r
wrote_given before after page r wrote = record {
  shelf = record { page = page; released = false };
  there =
      ap (λ (d : Shelves). slice_get d.shelves r.place) wrote.1
      ∙ ap (λ (n : ℕ). slice_get (before.shelves ++ (let shelf : Shelf = record { page = page; released = false } in shelf) ∷ []) n) (ap (λ (x : Receipt). x.place) wrote.0)
      ∙ get_last before.shelves _;
  shows = λ _. sym (ap (λ (x : Receipt). x.page) wrote.0);
  fresh = ap (λ (x : Receipt). x.released) wrote.0;
}

step_stays : (old new : HybridLog) (device after : Shelves) → trace.Sheds {D = Shelves} {R = Receipt} Wrote view old device new after → StaysGiven device after
step_stays old new device after step = elim step.flushed.how [
  | inl has ↦ subst (StaysGiven device) (sym has.2) (λ r given. given)
  | inr was ↦ wrote_stays device after (page_of old.resident old.resident.oldest) was.0 was.3
]

step_kept : (old new : HybridLog) (device after : Shelves) → trace.Sheds {D = Shelves} {R = Receipt} Wrote view old device new after
    → AreGivenKept old device → AreGivenKept new after
step_kept old new device after step given = elim step.flushed.how [
  | inl has ↦
      subst (λ (q : HybridLog). AreGivenKept q after) (sym (step.dropped ∙ ap hybrid.with_dropped has.1))
      (subst (λ (d : Shelves). AreGivenKept (hybrid.with_dropped old) d) (sym has.2) given)
  | inr was ↦
      subst (λ (q : HybridLog). AreGivenKept q after) (sym (step.dropped ∙ ap hybrid.with_dropped was.4))
      (kept_receipt after old old.resident.oldest was.0 (wrote_given device after (page_of old.resident old.resident.oldest) was.0 was.3)
      (kept_stays device after old (wrote_stays device after (page_of old.resident old.resident.oldest) was.0 was.3) given))
]

steps_stay : (n : ℕ) (old new : HybridLog) (device after : Shelves) → trace.ShedsAll {D = Shelves} {R = Receipt} Wrote view n old device new after
    → StaysGiven device after × (AreGivenKept old device → AreGivenKept new after)
steps_stay zero old new device after all = (
  subst (StaysGiven device) (sym all.1) (λ r given. given),
  λ given. subst (λ (q : HybridLog). AreGivenKept q after) (sym all.0) (subst (λ (d : Shelves). AreGivenKept old d) (sym all.1) given),
)
steps_stay (suc n) old new device after all =
    let before = steps_stay n old all.0 device all.1 all.2 in (
      λ r given. step_stays all.0 new all.1 after all.3 r (before.0 r given),
      λ given. step_kept all.0 new all.1 after all.3 (before.1 given),
    )

pub room_stays : (old new : HybridLog) (device after : Shelves) → trace.HasShed {D = Shelves} {R = Receipt} Wrote view old device new after
    → StaysGiven device after
room_stays old new device after shed = (steps_stay shed.count old new device after shed.all).0

pub room_kept : (old new : HybridLog) (device after : Shelves) → trace.HasShed {D = Shelves} {R = Receipt} Wrote view old device new after
    → AreGivenKept old device → AreGivenKept new after
room_kept old new device after shed = (steps_stay shed.count old new device after shed.all).1

pub room_given : (old new : HybridLog) (beside : Beside) (device after : Shelves) → trace.HasShed {D = Shelves} {R = Receipt} Wrote view old device new after
    → AreAllGiven device old beside → AreAllGiven after new beside
room_given old new beside device after shed given =
    let both = steps_stay shed.count old new device after shed.all in
    let there : AreAllGiven after old beside = all_stays device after old beside both.0 given in
    record {
      kept = both.1 given.kept;
      flushing = there.flushing;
      unlinked = there.unlinked;
      retired = there.retired;
      drained = there.drained;
    }

-- the receipt by which a log sees one that the device gave
pub view_given : (device : Shelves) (r : Receipt) → IsGivenKept device (view r) → IsGiven device r
view_given device r kept = record {
  shelf = (kept.given).shelf;
  there = (kept.given).there;
  shows = (kept.given).shows;
  fresh = same_flag r.released false (ap (λ (l : List ℕ). get_or l 1 0) kept.identity);
}

-- WHAT STANDS BESIDE THE LOG

pub retire_given : (device : Shelves) (p : HybridLog) (before after : Beside) (epoch : ℕ) → DoesRetire true epoch before after
    → AreAllGiven device p before → AreAllGiven device p after
retire_given device p before after epoch does given =
    let old = subst (Each (IsGivenKept device)) does.2 given.unlinked in
    subst (AreAllGiven device p) (sym does.3)
    (record {
      kept = given.kept;
      flushing = given.flushing;
      unlinked = old.1;
      retired =
          each_last (λ (one : Receipt × ℕ). IsGiven device one.0) before.retired (does.0, epoch) given.retired (view_given device does.0 old.0);
      drained = given.drained;
    })

pub drain_given : (device : Shelves) (c : Counted) (before after : Queues) → DoesDrain true before after
    → AreAllGiven device c.log (beside_of c before) → AreAllGiven device c.log (beside_of c after)
drain_given device c before after does given =
    let old = subst (Each (λ (one : Receipt × ℕ). IsGiven device one.0)) does.2 given.retired in
    record {
      kept = given.kept;
      flushing = subst (IsGivenBy device) (sym does.5) given.flushing;
      unlinked = given.unlinked;
      retired = subst (Each (λ (one : Receipt × ℕ). IsGiven device one.0)) (sym does.3) old.1;
      drained =
          subst (Each (λ (one : Receipt × ℕ). IsGiven device one.0)) (sym does.4)
          (each_last (λ (one : Receipt × ℕ). IsGiven device one.0) before.drained.items does.0 given.drained old.0);
    }

pub release_stays : (done : Bool) (page : Bytes) (old : HybridLog) (before : Beside) (device : Shelves) (new : HybridLog) (after : Beside) (shown : Shelves)
    → DoesRelease done page old before device new after shown → StaysGiven device shown
release_stays true page old before device new after shown does r given =
    subst (λ (d : Shelves). IsGiven d r) (sym does.4) (given_released device r (does.0).0.place page given)
release_stays false page old before device new after shown does r given = subst (λ (d : Shelves). IsGiven d r) (sym does.3) given

pub release_given : (done : Bool) (page : Bytes) (old : HybridLog) (before : Beside) (device : Shelves) (new : HybridLog) (after : Beside) (shown : Shelves)
    → DoesRelease done page old before device new after shown → AreAllGiven device old before → AreAllGiven shown new after
release_given true page old before device new after shown does given =
    let was = subst (Each (λ (one : Receipt × ℕ). IsGiven device one.0)) does.2 given.drained in
    all_stays device shown new after (release_stays true page old before device new after shown does)
    (subst (AreAllGiven device new) (sym does.3)
    (record {
      kept = kept_as device old new (ap (λ (q : HybridLog). q.kept) does.5) given.kept;
      flushing = given.flushing;
      unlinked = given.unlinked;
      retired = given.retired;
      drained = was.1;
    }))
release_given false page old before device new after shown does given =
    all_stays device shown new after (release_stays false page old before device new after shown does)
    (subst (AreAllGiven device new) (sym does.1) (subst (λ (q : HybridLog). AreAllGiven device q before) (sym does.2) given))

written_stays : (f : Flushing) (old new : Shelves) (after : Flushing) → IsWritten f old after new → StaysGiven old new × IsGivenBy new after
written_stays has.Nothing old new after is = absurd is
written_stays (has.Wrote number page r) old new after is = absurd is
written_stays (has.Copied number page) old new after is =
    let receipt : Receipt = record { place = length old.shelves; page = page.value; released = false } in
    let wrote : Wrote old page.value receipt (with_shelf old page.value) = (refl, refl) in (
      λ r given. subst (λ (d : Shelves). IsGiven d r) (sym is.1) (given_written old r page.value given),
      subst (λ (d : Shelves). IsGivenBy d after) (sym is.1)
          (subst (IsGivenBy (with_shelf old page.value)) (sym is.0) (wrote_given old (with_shelf old page.value) page.value receipt wrote)),
    )

pub write_stays : (done : Bool) (before : Queues) (old : Shelves) (after : Queues) (new : Shelves) → DoesWrite done before old after new → StaysGiven old new
write_stays true before old after new does r given = (written_stays before.flushing old new after.flushing does.0).0 r given
write_stays false before old after new does r given = subst (λ (d : Shelves). IsGiven d r) (sym does.2) given

pub write_given : (done : Bool) (c : Counted) (before : Queues) (old : Shelves) (after : Queues) (new : Shelves) → DoesWrite done before old after new
    → AreAllGiven old c.log (beside_of c before) → AreAllGiven new c.log (beside_of c after)
write_given true c before old after new does given =
    let all = written_stays before.flushing old new after.flushing does.0 in
    let there : AreAllGiven new c.log (beside_of c before) = all_stays old new c.log (beside_of c before) all.0 given in
    subst (λ (q : Queues). AreAllGiven new c.log (beside_of c q)) (sym does.1)
    (record { kept = there.kept; flushing = all.1; unlinked = there.unlinked; retired = there.retired; drained = there.drained })
write_given false c before old after new does given =
    subst (λ (q : Queues). AreAllGiven new c.log (beside_of c q)) (sym does.1) (subst (λ (d : Shelves). AreAllGiven d c.log (beside_of c before)) (sym does.2) given)

-- The cleaner's step on one stripe.
use Rattle.std.proofs.Common.{◌≡◌, ◌≢◌, ◌⊎◌, ℕ, zero, suc, ◌+◌, ◌-◌, ◌<◌, ◌≤◌, Bool, false, List, [], ◌∷◌, ◌++◌, length, map, get_or, set, drop, replicate, Option, None, Some, IsSome, refl, sym, ap, subst, ◌∙◌, arith, inl, inr, if◌then◌else◌, nat_lt}
use Rattle.std.specs.Prelude.{slice_index_or, slice_get}
use Rattle.std.proofs.Common.{length-append}
use Rattle.std.proofs.lemmas.Bool.{cases_lt, cases_eq}
use Rattle.std.proofs.lemmas.List.{map-append, get_or-set_same, get_or-set_other, set_past, get_or-drop, length-drop}
use Rattle.frames.specs.Resident.{Resident, first_mutable, page_of}
use Rattle.hybrid.specs.HybridLog as hybrid
use Rattle.hybrid.specs.Reserving.{IsReserved}
use Rattle.hybrid.specs.Shedding as trace
use Rattle.hybrid.specs.Reading.{HasRead, HasStaged, ReadingLaws, unread}
use Rattle.hybrid.specs.Log.{Log}
use Rattle.hybrid.specs.Weighing.{live_weight, oldest_weight}
use Rattle.records.specs.Records.{records_of}
use Rattle.words.specs.declared.limits.TheConstants.{WEIGHT_MAX}
use Rattle.world_log.specs.PlaceLaws.{served_copy}
use Rattle.world_model.specs.Logs.{LogState, places_kept, place_at, unreleased, with_opened, without_oldest}
use Rattle.world_log.specs.declared.queues.Flushing.TheVariants as has
use Rattle.world_log.specs.declared.queues.Flushing.{Flushing}
use Rattle.world_log.proofs.Agreeing.{numbered_of, place_is, total}
use Rattle.hybrid.specs.HybridLog.{HybridLog, IsHybridLog, Kept, count_kept, receipt_of, receipt_at, log_of, shown_page}
use Rattle.hybrid.specs.Staging.{StagedPage, IsMissing}
use Rattle.world_log.specs.MakingRoom.{ShedsMany, HasMadeRoom}
use Rattle.world_log.specs.Places.{Receipt, Shelf, Shelves, Serves, SamePlaces, Wrote, identity, page_released, places_of, view}
use Rattle.shards.specs.Counted as counting
use Rattle.shards.specs.Counted.{Counted}
use Rattle.world_log.specs.Beside.{Agrees, Beside, IsFaithful, beside_of, log_state, place_kept, place_of}
use Rattle.world_log.specs.declared.queues.Queues.{Queues}
use Rattle.world_log.specs.Cleaning.{IsServedBy, AreServed, IsFetched, HasUnlinked}

-- A PAGE THAT IS STAGED

-- a receipt of a page that is live
at_of : (p : HybridLog) (number : ℕ) → p.oldest ≤ number → receipt_at p number ≡ receipt_of p number
at_of p number live =
    let t : nat_lt number p.oldest ≡ false = grind arith in
    ap (λ (b : Bool). if b then None else receipt_of p number) t

pub missing_none : (p : HybridLog) (staged : List StagedPage) (number : ℕ) → IsMissing p staged number → receipt_at p number ≡ None → ⊥
missing_none p staged number missing none =
    let is = sym missing.has ∙ sym (at_of p number missing.live) ∙ none in absurd (cc is)

pub missing_some : (p : HybridLog) (staged : List StagedPage) (number : ℕ) (one : Kept) → IsMissing p staged number → Some one ≡ receipt_at p number
    → receipt_of p number ≡ Some one
missing_some p staged number one missing is = sym (at_of p number missing.live) ∙ sym is

-- a receipt that is served is so by its copies
pub copy_served : (device : Shelves) (one : Kept) (r : Receipt) → IsServedBy device one → identity r ≡ one.identity → Serves device r
copy_served device one r served same =
    served_copy device (record { place = get_or one.identity 0 0; page = one.shown; released = false }) r (sym served.identity ∙ sym same) served.shelf

-- a page was staged by a copy of the receipt that is kept
pub fetched_by : (p : HybridLog) (number : ℕ) (old new : List StagedPage) (one two : Kept) → receipt_of p number ≡ Some one → two ≡ one
    → HasStaged two old new → IsFetched p number old new
fetched_by p number old new one two has same staged = record {
  kept = one;
  has = has;
  page = staged.page;
  staged =
      staged.is
      ∙ ap (λ (k : Kept). let s : StagedPage = record { kept = k; page = staged.page; piece = None } in old ++ s ∷ []) same;
}

-- where a page was fetched that was missing, less is to be read
pub fetched_less : ReadingLaws → (p : HybridLog) (number : ℕ) (old new : List StagedPage) → IsMissing p old number → IsFetched p number old new
    → unread p new < unread p old
fetched_less laws p number old new missing fetched =
    let same : fetched.kept ≡ missing.kept = some_same (sym fetched.has ∙ missing.has) in
    laws.fewer p old new number missing (subst (λ (k : Kept). HasRead k old new) same (record { page = fetched.page; piece = None; is = fetched.staged; more = inl refl }))
  where
    some_same : {a b : Kept} → Option.Some a ≡ Some b → a ≡ b
    some_same same = cc same

-- what is served by one device is served by another with its places
pub served_places : (p : HybridLog) (device after : Shelves) → SamePlaces device after → AreServed p device → AreServed p after
served_places p device after same served i one is =
    let was = served i one is in
    record { shelf = ap (λ (l : List Shelf). slice_get l (get_or one.identity 0 0)) same ∙ was.shelf; identity = was.identity }

-- THE PAGE THAT LEFT

place_of_some : (p : HybridLog) (beside : Beside) (one : Kept) → IsHybridLog p → receipt_of p p.oldest ≡ Some one
    → place_at (log_state p beside) p.oldest ≡ Some (get_or one.identity 0 0)
place_of_some p beside one fit has = place_is p beside (numbered_of p fit) p.oldest (omega arith) ∙ ap place_kept has

kept_left : (kept : List (Option Kept)) (n : ℕ) → map place_kept (drop 1 (kept ++ replicate n None)) ≡ drop 1 (map place_kept kept ++ replicate n None)
kept_left [] zero = refl
kept_left [] (suc n) = nones n
  where
    nones : (n : ℕ) → map place_kept (replicate n None) ≡ replicate n None
    nones zero = refl
    nones (suc n) = ap (λ (l : List (Option ℕ)). None ∷ l) (nones n)
kept_left (one ∷ kept) n = map-append place_kept kept (replicate n None) ∙ ap (λ (l : List (Option ℕ)). map place_kept kept ++ l) (nones n)
  where
    nones : (n : ℕ) → map place_kept (replicate n None) ≡ replicate n None
    nones zero = refl
    nones (suc n) = ap (λ (l : List (Option ℕ)). None ∷ l) (nones n)

-- the place of the receipt that was unlinked
unlinked_place : (unlinked : List Kept) (kept : Kept) → map place_of (unlinked ++ kept ∷ []) ≡ map place_of unlinked ++ place_of kept ∷ []
unlinked_place unlinked kept = map-append place_of unlinked (kept ∷ [])

pub has_unlinked : (old new : Counted) (weight : ℕ) (queues : Queues) → IsHybridLog old.log → old.log.oldest < old.log.resident.oldest
    → weight ≤ WEIGHT_MAX → counting.HasUnlinked old new weight → HasUnlinked old.log (beside_of old queues) new.log (beside_of new queues)
has_unlinked old new weight queues fit cold light done = record {
  cold = cold;
  place = place_of done.kept;
  opened = (done.left).opened;
  there = place_of_some old.log (beside_of old queues) done.kept fit done.had;
  few = omega (arith, (done.left).few, light);
  done =
      ap (λ (o : ℕ). record (log_state new.log (beside_of new queues)) { oldest = o }) (done.left).oldest
      ∙ ap (λ (o : ℕ). record (log_state new.log (beside_of new queues)) { oldest = old.log.oldest + 1; first = o }) (done.left).first
      ∙ ap (λ (k : List (Option ℕ)). record (log_state new.log (beside_of new queues)) { oldest = old.log.oldest + 1; first = old.log.resident.oldest; kept = k })
      (ap (map place_kept) (done.left).kept ∙ kept_left old.log.kept (done.left).opened)
      ∙ ap (λ (u : List ℕ). record (without_oldest (with_opened (log_state old.log (beside_of old queues)) (done.left).opened) (place_of done.kept)) { unlinked = u })
      (ap (λ (x : Counted). map place_of x.unlinked) done.is ∙ unlinked_place old.unlinked done.kept);
}

-- COUNTS AND THE FLUSHER'S COPY

pub len_opened : (kept : List (Option ℕ)) (n : ℕ) → length (places_kept (kept ++ replicate n None)) ≡ length (places_kept kept)
len_opened [] zero = refl
len_opened [] (suc n) = len_opened [] n
len_opened (None ∷ kept) n = len_opened kept n
len_opened (Some q ∷ kept) n = omega (arith, len_opened kept n)

len_cleaned : (kept : List (Option ℕ)) (place n : ℕ) → get_or kept 0 None ≡ Some place
    → length (places_kept kept) ≡ 1 + length (places_kept (drop 1 (kept ++ replicate n None)))
len_cleaned [] place n is = absurd (cc is)
len_cleaned (None ∷ kept) place n is = absurd (cc is)
len_cleaned (Some q ∷ kept) place n is = omega (arith, len_opened kept n)

front_of : (log : LogState) (place : ℕ) → place_at log log.oldest ≡ Some place → get_or log.kept 0 None ≡ Some place
front_of log place is =
    let t : nat_lt log.oldest log.oldest ≡ false = grind arith in
    let zero_is : log.oldest - log.oldest ≡ 0 = omega arith in
    ap (λ (k : ℕ). get_or log.kept k None) (sym zero_is)
    ∙ sym (ap (λ (b : Bool). if b then None else get_or log.kept (log.oldest - log.oldest) None) t) ∙ is

unlinked_counts : (log : LogState) (place opened : ℕ) → place_at log log.oldest ≡ Some place
    → unreleased (without_oldest (with_opened log opened) place) ≡ unreleased log
unlinked_counts log place opened is =
    let new : LogState = without_oldest (with_opened log opened) place in
    omega (arith, total log, total new, len_cleaned log.kept place opened (front_of log place is), length-append log.unlinked (place ∷ []))

pub faithful_step : (old new : HybridLog) (flushing : Flushing) → first_mutable old.resident ≤ first_mutable new.resident
    → old.resident.oldest ≤ new.resident.oldest
    → ((n : ℕ) → new.resident.oldest ≤ n → n < first_mutable old.resident → page_of new.resident n ≡ page_of old.resident n)
    → IsFaithful old flushing → IsFaithful new flushing
faithful_step old new has.Nothing low first pages faithful = tt
faithful_step old new (has.Copied number page) low first pages faithful =
    (omega (arith, low, faithful.0), λ from. faithful.1 (omega (arith, first, from)) ∙ sym (pages number from faithful.0))
faithful_step old new (has.Wrote number page receipt) low first pages faithful =
    (omega (arith, low, faithful.0), λ from. faithful.1 (omega (arith, first, from)) ∙ sym (pages number from faithful.0), faithful.2)

pub agrees_unlinked : (old new : Counted) (weight : ℕ) (queues : Queues) → Agrees old queues → counting.HasUnlinked old new weight
    → HasUnlinked old.log (beside_of old queues) new.log (beside_of new queues) → Agrees new queues
agrees_unlinked old new weight queues agrees left done = record {
  counted =
      (left.left).unreleased ∙ agrees.counted
      ∙ sym (ap unreleased done.done ∙ unlinked_counts (log_state old.log (beside_of old queues)) done.place done.opened done.there);
  in_flight = ap (λ (x : Counted). x.in_flight) left.is ∙ agrees.in_flight;
  retired = ap (λ (x : Counted). x.retired) left.is ∙ agrees.retired;
  drained = ap (λ (x : Counted). x.drained) left.is ∙ agrees.drained;
  faithful =
      faithful_step old.log new.log queues.flushing (omega (arith, (left.left).first, (left.left).next, (left.left).frames)) (omega (arith, (left.left).first))
      (λ n from lt. (left.left).read_only n (omega (arith, (left.left).first, from)) lt) agrees.faithful;
}

-- ROOM WAS MADE

get_more : {X : Type 0} (xs ys : List X) (i : ℕ) (x : X) → slice_get xs i ≡ Some x → slice_get (xs ++ ys) i ≡ Some x
get_more [] ys i x is = absurd (cc is)
get_more (y ∷ xs) ys zero x is = is
get_more (y ∷ xs) ys (suc i) x is = get_more xs ys i x is

get_last : {X : Type 0} (xs : List X) (x : X) → slice_get (xs ++ x ∷ []) (length xs) ≡ Some x
get_last [] x = refl
get_last (y ∷ xs) x = get_last xs x

served_set : (device after : Shelves) (kept : List (Option Kept)) (at : ℕ) (r : Receipt)
    → ((i : ℕ) (one : Kept) → slice_index_or kept i None ≡ Some one → IsServedBy device one) → (page : List ℕ) → Wrote device page r after
    → (i : ℕ) (one : Kept) → slice_index_or (set kept at (Some (view r))) i None ≡ Some one → IsServedBy after one
served_set device after kept at r served page wrote i one is = by_place (cases_eq i at)
  where
    still : (other : Kept) → IsServedBy device other → IsServedBy after other
    still other was = record {
      shelf = ap (λ (d : Shelves). slice_get d.shelves (get_or other.identity 0 0)) wrote.1
          ∙ get_more device.shelves _ (get_or other.identity 0 0) _ was.shelf;
      identity = was.identity;
    }

    own : IsServedBy after (view r)
    own = record {
      shelf = ap (λ (d : Shelves). slice_get d.shelves r.place) wrote.1
          ∙ ap (λ (n : ℕ). slice_get (device.shelves ++ (let shelf : Shelf = record { page = page; released = false } in shelf) ∷ []) n) (ap (λ (x : Receipt). x.place) wrote.0)
          ∙ get_last device.shelves _
          ∙ ap (λ (x : Receipt). Some (let shelf : Shelf = record { page = x.page; released = false } in shelf)) (sym wrote.0);
      identity = ap (λ (x : Receipt). identity x) wrote.0 ∙ ap (λ (x : Receipt). x.place ∷ 0 ∷ x.page) (sym wrote.0);
    }

    some_same : {a b : Kept} → Option.Some a ≡ Some b → a ≡ b
    some_same same = cc same

    by_place : (i ≡ at) ⊎ (i ≢ at) → IsServedBy after one
    by_place (inl same) = by_size (cases_lt at (length kept))
      where
        by_size : (at < length kept) ⊎ (length kept ≤ at) → IsServedBy after one
        by_size (inl lt) =
            subst (IsServedBy after)
            (some_same (sym (get_or-set_same kept at (Some (view r)) None lt) ∙ ap (λ (k : ℕ). slice_index_or (set kept at (Some (view r))) k None) (sym same) ∙ is)) own
        by_size (inr le) = still one (served i one (ap (λ (l : List (Option Kept)). slice_index_or l i None) (sym (set_past kept at (Some (view r)) le)) ∙ is))
    by_place (inr other) = still one (served i one (sym (get_or-set_other kept at i (Some (view r)) None other) ∙ is))

served_step : (old new : HybridLog) (device after : Shelves) → AreServed old device → trace.Sheds {D = Shelves} {R = Receipt} Wrote view old device new after
    → AreServed new after
served_step old new device after served step = elim step.flushed.how [
  | inl has ↦
      subst (λ (q : HybridLog). AreServed q after) (sym (step.dropped ∙ ap hybrid.with_dropped has.1))
      (subst (λ (d : Shelves). AreServed (hybrid.with_dropped old) d) (sym has.2) served)
  | inr was ↦
      subst (λ (q : HybridLog). AreServed q after) (sym (step.dropped ∙ ap hybrid.with_dropped was.4))
      (served_set device after old.kept (old.resident.oldest - old.oldest) was.0 served (page_of old.resident old.resident.oldest) was.3)
]

served_steps : (n : ℕ) (old new : HybridLog) (device after : Shelves) → AreServed old device
    → trace.ShedsAll {D = Shelves} {R = Receipt} Wrote view n old device new after → AreServed new after
served_steps zero old new device after served all =
    subst (λ (q : HybridLog). AreServed q after) (sym all.0) (subst (λ (d : Shelves). AreServed old d) (sym all.1) served)
served_steps (suc n) old new device after served all =
    served_step all.0 new all.1 after (served_steps n old all.0 device all.1 served all.2) all.3

pub served_room : (old new : HybridLog) (device after : Shelves) → AreServed old device
    → trace.HasShed {D = Shelves} {R = Receipt} Wrote view old device new after → AreServed new after
served_room old new device after served shed = served_steps shed.count old new device after served shed.all

pub faithful_room : (old new : HybridLog) (count : ℕ) (flushing : Flushing) → IsReserved old new count → IsFaithful old flushing → IsFaithful new flushing
faithful_room old new count flushing reserved faithful =
    let first : new.resident.oldest ≡ old.resident.oldest + count = ap (λ (r : Resident). r.oldest) reserved.resident in
    let frames : new.resident.frames ≡ old.resident.frames = ap (λ (r : Resident). r.frames) reserved.resident in
    let size : length new.resident.pages ≡ length old.resident.pages - count =
    ap (λ (r : Resident). length r.pages) reserved.resident ∙ length-drop count old.resident.pages in
    faithful_step old new flushing (omega (arith, first, frames, size)) (omega (arith, first))
    (λ n from lt.
    ap (λ (r : Resident). page_of r n) reserved.resident
    ∙ get_or-drop count old.resident.pages (n - (old.resident.oldest + count)) []
    ∙ ap (λ (k : ℕ). slice_index_or old.resident.pages k []) (omega (arith, from, first)))
    faithful

-- WHAT LIVES IN THE OLDEST PAGE

-- weighs the same, once room was made
pub weight_same : (old new : HybridLog) (count : ℕ) → IsHybridLog old → old.oldest < old.resident.oldest → IsReserved old new count
    → log_of new ≡ log_of old → oldest_weight new ≡ oldest_weight old
weight_same old new count fit cold reserved same = by_receipt (receipt_of old old.oldest) refl
  where
    some : IsSome (receipt_of old old.oldest)
    some = subst (λ (k : ℕ). IsSome (slice_index_or old.kept k None)) (omega (arith, fit.live)) (fit.cold_kept 0 (omega (arith, cold)))

    by_receipt : (o : Option Kept) → receipt_of old old.oldest ≡ o → oldest_weight new ≡ oldest_weight old
    by_receipt None is = absurd (none (subst IsSome is some))
      where
        none : IsSome {T = Kept} None → ⊥
        none is = cc is
    by_receipt (Some one) is =
        let still : receipt_of new new.oldest ≡ receipt_of old old.oldest =
        ap (receipt_of new) reserved.oldest ∙ reserved.still old.oldest one is ∙ sym is in
        ap (λ (l : Log). live_weight l new.oldest (records_of (shown_page (receipt_of new new.oldest)))) same
        ∙ ap (λ (n : ℕ). live_weight (log_of old) n (records_of (shown_page (receipt_of new new.oldest)))) reserved.oldest
        ∙ ap (λ (o : Option Kept). live_weight (log_of old) old.oldest (records_of (shown_page o))) still

-- and that page is still not resident
pub cold_still : (old new : HybridLog) (count : ℕ) → old.oldest < old.resident.oldest → IsReserved old new count → new.oldest < new.resident.oldest
cold_still old new count cold reserved =
    let first : new.resident.oldest ≡ old.resident.oldest + count = ap (λ (r : Resident). r.oldest) reserved.resident in
    omega (arith, cold, first, reserved.oldest)

-- ROOM, OVER A DEVICE WITH THE SAME PLACES

pub made_from : (old new : HybridLog) (device one two after : Shelves) (beside : Beside) → SamePlaces device one → SamePlaces two after
    → HasMadeRoom old one new two beside → HasMadeRoom old device new after beside
made_from old new device one two after beside first last made =
    record {
      count = made.count;
      sheds =
          subst (λ (l : List Shelf). ShedsMany old.resident.frames old.places made.count (log_state old beside) (places_of device) (log_state new beside) (map page_released l)) (sym last)
          (subst (λ (l : List Shelf). ShedsMany old.resident.frames old.places made.count (log_state old beside) (map page_released l) (log_state new beside) (places_of two)) first
          made.sheds);
      counted = made.counted;
    }

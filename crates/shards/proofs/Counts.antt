-- Receipts that are kept, and how many.
use Rattle.std.proofs.Common.{◌≡◌, ◌≢◌, ◌⊎◌, inl, inr, ⊎_elim, length-append, nat_lt, ◌∙◌, ℕ, zero, suc, ◌+◌, ◌-◌, ◌/◌, ◌<◌, ◌≤◌, Bool, true, false, List, [], ◌∷◌, ◌++◌, Option, Some, None, Result, Ok, Err, length, map, set, replicate, refl, sym, ap, subst, arith}
use Rattle.std.specs.Prelude.{OnOk, OnErr, slice_index_or}
use Rattle.std.specs.Option.{is_some}
use Rattle.std.specs.Bool.{OnTrue, OnFalse}
use Rattle.std.specs.Prelude.{if◌then◌else◌}
use Rattle.shards.specs.Counted.{Counted, HasDrained, HasLanded, HasReleased, HasRetired, HasTaken, HasTurned, HasUnlinked, IsCounted, WasRefused, claimed, places_of, with_flight}
use Rattle.hybrid.specs.Staging.{IsUnlinked}
use Rattle.std.specs.List.{Contains}
use Rattle.hybrid.specs.HybridLog.{HybridLog, Kept, IsHybridLog, count_kept, receipt_of, with_dropped, with_receipt}
use Rattle.hybrid.specs.HybridLog as hybrid
use Rattle.frames.specs.Resident.{next_number}
use Rattle.gates.specs.Background.{CameLate, HasKept, HasSamePages, IsStep, waiting}
use Rattle.gates.specs.Pages.{Pages, Place, count_true, total}
use Rattle.gates.specs.declared.view.Work.TheVariants.{Flush}

-- what is so of a log either way is so of one that is the same
pub either_way : {X E L Q : Type 0} (P : L → Type 0) (a b : L) (r : Result X E) → a ≡ b → OnOk r (P a) → OnErr r (Q → P a) → Q → P b
either_way P a b (Ok x) same ok err q = subst P same ok
either_way P a b (Err e) same ok err q = subst P same (err q)

-- pages that were opened have no receipt
pub count_none : (kept : List (Option Kept)) (n : ℕ) → count_kept (kept ++ replicate n None) ≡ count_kept kept
count_none [] zero = refl
count_none [] (suc n) = count_none [] n
count_none (None ∷ kept) n = count_none kept n
count_none (Some k ∷ kept) n = omega (arith, count_none kept n)

-- as many pages have a receipt as receipts are kept
pub count_kept_as : (kept : List (Option Kept)) → count_true (map is_some kept) ≡ count_kept kept
count_kept_as [] = refl
count_kept_as (None ∷ kept) = count_kept_as kept
count_kept_as (Some k ∷ kept) = omega (arith, count_kept_as kept)

-- a page of which no receipt was kept has one
pub count_more : (kept : List (Option Kept)) (i : ℕ) (k : Kept) → i < length kept → slice_index_or kept i None ≡ None
    → count_true (map is_some (set kept i (Some k))) ≡ count_true (map is_some kept) + 1
count_more [] i k below none = absurd (omega (arith, below))
count_more (None ∷ kept) zero k below none = omega arith
count_more (Some x ∷ kept) zero k below none = absurd (cc none)
count_more (None ∷ kept) (suc i) k below none = count_more kept i k (omega (arith, below)) none
count_more (Some x ∷ kept) (suc i) k below none = omega (arith, count_more kept i k (omega (arith, below)) none)

pub receipts_at : (kept : List (Option Kept)) (i : ℕ) → slice_index_or (map is_some kept) i false ≡ is_some (slice_index_or kept i None)
receipts_at [] i = refl
receipts_at (x ∷ kept) zero = refl
receipts_at (x ∷ kept) (suc i) = receipts_at kept i

is_none : {X : Type 0} (x : Option X) → is_some x ≡ false → x ≡ None
is_none None e = refl
is_none (Some x) e = absurd (cc e)

-- a page that waits to be written by its numbers is one of the log that does
pub sealed_as : (p : HybridLog) (number : ℕ) → IsHybridLog p → p.resident.oldest ≤ number → number + p.resident.frames / 3 < next_number p.resident - 1 + 1
    → slice_index_or (map is_some p.kept) (number - p.oldest) false ≡ false → hybrid.IsSealed p number
sealed_as p number is from below none = record {
  from = from;
  below = omega (arith, below, is.tail);
  none = is_none (slice_index_or p.kept (number - p.oldest) None) (sym (receipts_at p.kept (number - p.oldest)) ∙ none);
}

-- where its receipt is kept, one page more has one
pub kept_more : (p : HybridLog) (number : ℕ) (k : Kept) → IsHybridLog p → hybrid.IsSealed p number
    → count_true (map is_some (with_receipt p number k).kept) ≡ count_true (map is_some p.kept) + 1
kept_more p number k is sealed = count_more p.kept (number - p.oldest) k (omega (arith, is.numbered, is.live, sealed.from, sealed.below)) sealed.none

-- the pages of a log, with what becomes of its places
abbrev pub counted_pages : Counted → Pages
counted_pages c = record {
  oldest = c.log.oldest;
  first = c.log.resident.oldest;
  tail = next_number c.log.resident - 1;
  frames = c.log.resident.frames;
  receipts = map is_some c.log.kept;
  unlinked = length c.unlinked;
  retired = length c.retired;
  drained = length c.drained;
  waits = places_of c.unlinked;
  refused = c.refused;
  worn = c.worn;
  unreleased = c.log.unreleased;
  places = c.log.places;
}

le_same : (n : ℕ) → n ≤ n
le_same n = omega arith

le_more : (n : ℕ) → n ≤ n + 1
le_more n = omega arith

-- a page that was written has a receipt, or one place more is unlinked, and not both
pub landed : (old new : Counted) (number : ℕ) (page : List ℕ) (k : Kept) → IsHybridLog old.log → HasLanded old number page k new
    → IsStep Flush (counted_pages old) (counted_pages new)
landed old new number page k log has = ⊎_elim
    (λ one. inl (subst (λ (c : Counted). HasKept (counted_pages old) (counted_pages c)) (sym one.1) (record {
      same = record { oldest = refl; first = refl; tail = refl; frames = refl; places = refl; taken = le_more old.log.unreleased };
      receipts = kept_more old.log number k log one.0.0;
      waits = le_same (waiting (counted_pages old));
    })))
    (λ late. inr (subst (λ (c : Counted). CameLate (counted_pages old) (counted_pages c)) (sym late.1) (record {
      same = record { oldest = refl; first = refl; tail = refl; frames = refl; places = refl; taken = le_more old.log.unreleased };
      receipts = refl;
      unlinked = length-append old.unlinked (k ∷ []);
      retired = refl;
      drained = refl;
      refused = refl;
      worn = refl;
    })))
    has.how

-- no place was taken meanwhile
landed_places : (old new : Counted) (number : ℕ) (page : List ℕ) (k : Kept) → HasLanded old number page k new → new.log.unreleased ≡ old.log.unreleased
landed_places old new number page k has =
    ⊎_elim (λ one. ap (λ (c : Counted). c.log.unreleased) one.1) (λ late. ap (λ (c : Counted). c.log.unreleased) late.1) has.how

-- to count a place changes how many are taken, and nothing else
claimed_pages : (b : Bool) (c : Counted) → counted_pages (if b then c else with_flight c) ≡ record (counted_pages c) { unreleased = (if b then c else with_flight c).log.unreleased }
claimed_pages true c = refl
claimed_pages false c = refl

claimed_more : (b : Bool) (c : Counted) → (if b then c else with_flight c).log.unreleased ≤ c.log.unreleased + 1
claimed_more true c = le_more c.log.unreleased
claimed_more false c = le_same (c.log.unreleased + 1)

same_since : (was mid now : Pages) → mid ≡ record was { unreleased = mid.unreleased } → mid.unreleased ≤ was.unreleased + 1 → now.unreleased ≡ mid.unreleased
    → HasSamePages mid now → HasSamePages was now
same_since was mid now same more places one = record {
  oldest = one.oldest ∙ ap (λ (p : Pages). p.oldest) same;
  first = one.first ∙ ap (λ (p : Pages). p.first) same;
  tail = one.tail ∙ ap (λ (p : Pages). p.tail) same;
  frames = one.frames ∙ ap (λ (p : Pages). p.frames) same;
  places = one.places ∙ ap (λ (p : Pages). p.places) same;
  taken = subst (λ (n : ℕ). n ≤ was.unreleased + 1) (sym places) more;
}

-- a step since a place was counted
flush_since : (was mid now : Pages) → mid ≡ record was { unreleased = mid.unreleased } → mid.unreleased ≤ was.unreleased + 1 → now.unreleased ≡ mid.unreleased
    → IsStep Flush mid now → IsStep Flush was now
flush_since was mid now same more places step = ⊎_elim
    (λ one. inl (record {
      same = same_since was mid now same more places one.same;
      receipts = one.receipts ∙ ap (λ (p : Pages). count_true p.receipts + 1) same;
      waits = subst (λ (p : Pages). waiting now ≤ waiting p) same one.waits;
    }))
    (λ late. inr (record {
      same = same_since was mid now same more places late.same;
      receipts = late.receipts ∙ ap (λ (p : Pages). p.receipts) same;
      unlinked = late.unlinked ∙ ap (λ (p : Pages). p.unlinked + 1) same;
      retired = late.retired ∙ ap (λ (p : Pages). p.retired) same;
      drained = late.drained ∙ ap (λ (p : Pages). p.drained) same;
      refused = late.refused ∙ ap (λ (p : Pages). p.refused) same;
      worn = late.worn ∙ ap (λ (p : Pages). p.worn) same;
    }))
    step

-- and so since before its place was counted
pub claimed_step : (old claims new : Counted) (number : ℕ) (page : List ℕ) (k : Kept) → claims ≡ claimed old → HasLanded claims number page k new
    → IsStep Flush (counted_pages claims) (counted_pages new) → IsStep Flush (counted_pages old) (counted_pages new)
claimed_step old claims new number page k is has step =
    let same : counted_pages claims ≡ record (counted_pages old) { unreleased = claims.log.unreleased } =
    subst (λ (c : Counted). counted_pages c ≡ record (counted_pages old) { unreleased = c.log.unreleased }) (sym is) (claimed_pages (nat_lt 0 old.in_flight) old) in
    let more : claims.log.unreleased ≤ old.log.unreleased + 1 = subst (λ (c : Counted). c.log.unreleased ≤ old.log.unreleased + 1) (sym is) (claimed_more (nat_lt 0 old.in_flight) old) in
    flush_since (counted_pages old) (counted_pages claims) (counted_pages new) same more (landed_places claims new number page k has) step

-- a page may have left its frame: receipts, and counts of places, are the same
pub dropped_same : (b : Bool) (old new : HybridLog) → OnTrue b (new ≡ with_dropped old) → OnFalse b (new ≡ old)
    → (new.kept ≡ old.kept) × (new.unreleased ≡ old.unreleased) × (new.places ≡ old.places)
dropped_same true old new dropped same = (ap (λ (p : HybridLog). p.kept) dropped, ap (λ (p : HybridLog). p.unreleased) dropped, ap (λ (p : HybridLog). p.places) dropped)
dropped_same false old new dropped same = (ap (λ (p : HybridLog). p.kept) same, ap (λ (p : HybridLog). p.unreleased) same, ap (λ (p : HybridLog). p.places) same)

-- WHAT A STEP DID TO WHAT IS COUNTED, FROM WHAT WAS THERE

pub taken_by : (was old new : Counted) (kept : Kept) (others : List Kept) → was ≡ old → was.unlinked ≡ kept ∷ others
    → new ≡ record was { unlinked = others; in_flight = was.in_flight + 1 } → HasTaken old kept new
taken_by was old new kept others same had is = subst (λ (o : Counted). HasTaken o kept new) same (record { others = others; had = had; is = is })

pub retired_by_step : (was old new : Counted) (kept : Kept) (others : List Kept) → was ≡ old → was.unlinked ≡ kept ∷ others
    → new ≡ record was { unlinked = others; retired = was.retired ++ kept ∷ []; refused = was.refused ++ (kept.identity, 0) ∷ [] } → HasRetired old new
retired_by_step was old new kept others same had is = subst (λ (o : Counted). HasRetired o new) same (record { kept = kept; others = others; had = had; is = is })

pub unlinked_by : (was old new : Counted) (weight : ℕ) (kept : Kept) → was ≡ old → receipt_of was.log was.log.oldest ≡ Some kept → IsUnlinked was.log new.log weight
    → ((k : Kept) → Contains new.log.kept (Some k) → k.shown ≢ kept.shown) → new ≡ record was { log = new.log; unlinked = was.unlinked ++ kept ∷ [] } → HasUnlinked old new weight
unlinked_by was old new weight kept same had left others is =
    subst (λ (o : Counted). HasUnlinked o new weight) same (record { kept = kept; had = had; left = left; others = others; is = is })

pub released_by : {R D : Type 0} (serves : D → R → Type 0) (identity : R → List ℕ) (was old new : Counted) (before after : D) (kept : Kept) (others : List Kept) → was ≡ old
    → was.drained ≡ kept ∷ others → new ≡ record was { log = record was.log { unreleased = was.log.unreleased - 1 }; drained = others }
    → ((r : R) → identity r ≢ kept.identity → serves before r → serves after r) → HasReleased serves identity old before new after
released_by {R} {D} serves identity was old new before after kept others same had is served =
    subst (λ (o : Counted). HasReleased serves identity o before new after) same (record { kept = kept; others = others; had = had; is = is; served = served })

-- a place that was released is counted off
released_one : {R D : Type 0} (serves : D → R → Type 0) (identity : R → List ℕ) (old new : Counted) (before after : D) → IsCounted old → HasReleased serves identity old before new after
    → (length new.drained + 1 ≡ length old.drained) × (new.log.unreleased + 1 ≡ old.log.unreleased)
released_one serves identity old new before after counted released =
    let longer : length old.drained ≡ length released.others + 1 = ap length released.had ∙ omega arith in
    let fewer : new.log.unreleased ≡ old.log.unreleased - 1 = ap (λ (c : Counted). c.log.unreleased) released.is in
    (omega (arith, longer, ap (λ (c : Counted). length c.drained) released.is), omega (arith, longer, fewer, counted))

pub released_step : {R D : Type 0} (P Q S : Type 0) (serves : D → R → Type 0) (identity : R → List ℕ) (b : Bool) (old new : Counted) (before after : D) → IsCounted old → OnTrue b (HasReleased serves identity old before new after)
    → OnTrue b (P ⊎ Q ⊎ S ⊎ ((length new.drained + 1 ≡ length old.drained) × (new.log.unreleased + 1 ≡ old.log.unreleased)))
released_step P Q S serves identity true old new before after counted released = inr (inr (inr (released_one serves identity old new before after counted released)))
released_step P Q S serves identity false old new before after counted released = tt

pub drained_by_step : (was old new : Counted) (kept : Kept) (others : List Kept) (count : ℕ) (counts : List (Place × ℕ)) → was ≡ old → was.retired ≡ kept ∷ others → was.refused ≡ (kept.identity, count) ∷ counts
    → new ≡ record was { retired = others; drained = was.drained ++ kept ∷ []; refused = counts } → HasDrained old new
drained_by_step was old new kept others count counts same had counted is =
    subst (λ (o : Counted). HasDrained o new) same (record { kept = kept; others = others; had = had; count = count; counts = counts; counted = counted; is = is })

pub turned_drained : (was old new : Counted) (kept : Kept) (others : List Kept) (count : ℕ) (counts : List (Place × ℕ)) → was ≡ old → was.retired ≡ kept ∷ others → was.refused ≡ (kept.identity, count) ∷ counts
    → new ≡ record was { retired = others; drained = was.drained ++ kept ∷ []; refused = counts } → HasTurned old new
turned_drained was old new kept others count counts same had counted is =
    subst (λ (o : Counted). HasTurned o new) same (record { kept = kept; others = others; had = had; count = count; counts = counts; counted = counted; how = inl is })

pub turned_refused : (was old new : Counted) (kept : Kept) (others : List Kept) (count now : ℕ) (counts : List (Place × ℕ)) → was ≡ old → was.retired ≡ kept ∷ others → was.refused ≡ (kept.identity, count) ∷ counts → count < now
    → new ≡ record was { retired = others ++ kept ∷ []; refused = counts ++ (kept.identity, now) ∷ [] } → HasTurned old new
turned_refused was old new kept others count now counts same had counted more is =
    subst (λ (o : Counted). HasTurned o new) same (record { kept = kept; others = others; had = had; count = count; counts = counts; counted = counted; how = inr (now, more, is) })

-- one count is greater, and so are all together
pub more_in_all : (was new : List (Place × ℕ)) (p q : Place) (count now : ℕ) (counts : List (Place × ℕ)) → was ≡ (p, count) ∷ counts → new ≡ (q, now) ∷ counts → count < now → total was < total new
more_in_all was new p q count now counts one two more = omega (arith, ap total one, ap total two, more)

pub was_refused : (was old new : Counted) (place : Place) (count now : ℕ) (counts : List (Place × ℕ)) → was ≡ old → was.refused ≡ (place, count) ∷ counts → count < now
    → new ≡ record was { refused = (place, now) ∷ counts } → WasRefused old new
was_refused was old new place count now counts same counted more is =
    subst (λ (o : Counted). WasRefused o new) same (record { place = place; count = count; counts = counts; counted = counted; now = now; more = more; is = is })

-- what is counted, by what is retired and its counts
abbrev pub counted_with : (log : HybridLog) (in_flight : ℕ) (worn : Bool) (unlinked drained retired : List Kept) (refused : List (Place × ℕ)) → Counted
counted_with log in_flight worn unlinked drained retired refused =
    record { log = log; in_flight = in_flight; unlinked = unlinked; retired = retired; drained = drained; refused = refused; worn = worn }

pub both_lists : (log : HybridLog) (in_flight : ℕ) (worn : Bool) (unlinked drained a b : List Kept) (x y : List (Place × ℕ)) → a ≡ b → x ≡ y
    → counted_with log in_flight worn unlinked drained a x ≡ counted_with log in_flight worn unlinked drained b y
both_lists log in_flight worn unlinked drained a b x y one two =
    ap (λ (l : List Kept). counted_with log in_flight worn unlinked drained l x) one ∙ ap (λ (l : List (Place × ℕ)). counted_with log in_flight worn unlinked drained b l) two

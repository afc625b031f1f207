-- What a stripe's own flushes and drops are by numbers alone.
use Rattle.std.proofs.Common.{◌≡◌, ℕ, zero, suc, ◌+◌, ◌-◌, ◌<◌, ◌≤◌, true, false, List, [], ◌∷◌, length, map, get_or, set, Option, None, Some, IsSome, nat_lt, refl, sym, ap, subst, ◌∙◌, arith, inl, inr, length-drop, length-set}
use Rattle.std.proofs.lemmas.List.{length-map, map-set, map-append}
use Rattle.frames.specs.Resident.{Resident, next_number}
use Rattle.frames.specs.Resident as resident
use Rattle.hybrid.specs.HybridLog as hybrid
use Rattle.hybrid.specs.HybridLog.{HybridLog, IsHybridLog, Kept, count_kept, receipt_of}
use Rattle.hybrid.specs.Shedding as trace
use Rattle.world_model.specs.Logs.{LAST_PAGE, place_at, first_mutable, unreleased, dropped}
use Rattle.world_log.specs.Places.{Receipt, Shelf, Shelves, Wrote, view, places_of, page_released}
use Rattle.world_log.specs.Beside.{Beside, place_kept, log_state, IsNumbered}
use Rattle.world_log.specs.MakingRoom.{ShedsOne, ShedsMany, HasMadeRoom}
use Rattle.world_log.proofs.Agreeing.{mutable_same, place_is, not_full_by, total, count_same, kept_more}

abbrev Steps : HybridLog → Shelves → HybridLog → Shelves → Type 0
Steps old before new after = trace.Sheds {D = Shelves} {R = Receipt} Wrote view old before new after

-- What is kept from step to step.
record Goes (old : HybridLog) (now : HybridLog) (beside : Beside) : Type 0 where
  numbered : IsNumbered now
  counted : now.unreleased ≡ unreleased (log_state now beside)
  frames : now.resident.frames ≡ old.resident.frames
  places : now.places ≡ old.places

some_place : (o : Option Kept) → IsSome o → (place : ℕ) × (place_kept o ≡ Some place)
some_place None is = cc is
some_place (Some one) is = (get_or one.identity 0 0, refl)

lt_is : (a b : ℕ) → a < b → nat_lt a b ≡ true
lt_is a b lt = grind arith

module _ (p : HybridLog) (beside : Beside) (numbered : IsNumbered p) (counted : p.unreleased ≡ unreleased (log_state p beside)) where
  low : p.resident.oldest < resident.first_mutable p.resident
      → nat_lt (log_state p beside).first (first_mutable p.resident.frames (log_state p beside)) ≡ true
  low lt = lt_is p.resident.oldest (first_mutable p.resident.frames (log_state p beside))
      (subst (λ (n : ℕ). p.resident.oldest < n) (sym (mutable_same p beside numbered)) lt)

  -- where pages are resident, the one that leaves leaves its number
  left_numbered : p.resident.oldest < resident.first_mutable p.resident → (kept : List (Option Kept)) → length kept ≡ length p.kept
      → IsNumbered (record p { kept = kept; resident = resident.without_oldest p.resident; unreleased = 0 })
  left_numbered lt kept same = record {
    live = omega (arith, numbered.live);
    numbered = omega (arith, numbered.numbered, same, length-drop 1 p.resident.pages, lt);
  }

  kept_one : (device after : Shelves) → p.resident.oldest < resident.first_mutable p.resident → IsSome (receipt_of p p.resident.oldest) → after ≡ device
      → ShedsOne p.resident.frames p.places (log_state p beside) (places_of device) (log_state (hybrid.with_dropped p) beside) (places_of after)
  kept_one device after lt some same =
      let place = some_place (receipt_of p p.resident.oldest) some in
      let is : place_at (log_state p beside) p.resident.oldest ≡ Some place.0 = place_is p beside numbered p.resident.oldest numbered.live ∙ place.1 in
      record { read_only = low lt; leaves = rw is (refl, ap places_of same) }

  written_one : (device after : Shelves) (r : Receipt) → p.resident.oldest < resident.first_mutable p.resident
      → receipt_of p p.resident.oldest ≡ None → p.unreleased < p.places → next_number p.resident ≤ LAST_PAGE
      → Wrote device (resident.page_of p.resident p.resident.oldest) r after
      → ShedsOne p.resident.frames p.places (log_state p beside) (places_of device)
      (log_state (hybrid.with_dropped (record (hybrid.with_receipt p p.resident.oldest (view r)) { unreleased = p.unreleased + 1 })) beside) (places_of after)
  written_one device after r lt none few numbers wrote =
      let is : place_at (log_state p beside) p.resident.oldest ≡ None = place_is p beside numbered p.resident.oldest numbered.live ∙ ap place_kept none in
      let count : length (places_of device) ≡ length device.shelves = length-map device.shelves page_released in
      let place : r.place ≡ length (places_of device) = ap (λ (x : Receipt). x.place) wrote.0 ∙ sym count in
      record {
        read_only = low lt;
        leaves = rw is (
          not_full_by p beside numbered counted few numbers,
          ap (λ (k : List (Option ℕ)). dropped (record (log_state p beside) { kept = k }))
              (map-set place_kept p.kept (p.resident.oldest - p.oldest) (Some (view r))
              ∙ ap (λ (n : ℕ). set (map place_kept p.kept) (p.resident.oldest - p.oldest) (Some n)) place),
          ap places_of wrote.1
              ∙ map-append page_released device.shelves ((let shelf : Shelf = record { page = resident.page_of p.resident p.resident.oldest; released = false } in shelf) ∷ []),
        );
      }

  written_counted : (r : Receipt) → p.resident.oldest < resident.first_mutable p.resident → receipt_of p p.resident.oldest ≡ None
      → (let new : HybridLog = hybrid.with_dropped (record (hybrid.with_receipt p p.resident.oldest (view r)) { unreleased = p.unreleased + 1 }) in
      new.unreleased ≡ unreleased (log_state new beside))
  written_counted r lt none =
      let new : HybridLog = hybrid.with_dropped (record (hybrid.with_receipt p p.resident.oldest (view r)) { unreleased = p.unreleased + 1 }) in
      omega (
        arith,
        counted,
        total (log_state p beside),
        total (log_state new beside),
        count_same p.kept,
        count_same new.kept,
        kept_more p.kept (p.resident.oldest - p.oldest) (view r) (omega (arith, numbered.numbered, numbered.live, lt)) none,
      )

-- one step
step_is : (old p new : HybridLog) (beside : Beside) (device after : Shelves) → Goes old p beside → Steps p device new after
    → ShedsOne old.resident.frames old.places (log_state p beside) (places_of device) (log_state new beside) (places_of after) × Goes old new beside
step_is old p new beside device after goes step = elim step.flushed.how [
  | inl has ↦
      let made : new ≡ hybrid.with_dropped p = step.dropped ∙ ap hybrid.with_dropped has.1 in
      let numbered : IsNumbered (hybrid.with_dropped p) =
      let l = left_numbered p beside goes.numbered goes.counted step.read_only p.kept refl in record { live = l.live; numbered = l.numbered } in (
        subst (λ (q : HybridLog). ShedsOne old.resident.frames old.places (log_state p beside) (places_of device) (log_state q beside) (places_of after)) (sym made)
            (rw (← goes.frames, ← goes.places) (kept_one p beside goes.numbered goes.counted device after step.read_only has.0 has.2)),
        subst (λ (q : HybridLog). Goes old q beside) (sym made) (record { numbered = numbered; counted = goes.counted; frames = goes.frames; places = goes.places }),
      )
  | inr was ↦
      let r : Receipt = was.0 in
      let mid : HybridLog = record (hybrid.with_receipt p p.resident.oldest (view r)) { unreleased = p.unreleased + 1 } in
      let made : new ≡ hybrid.with_dropped mid = step.dropped ∙ ap hybrid.with_dropped was.4 in
      let numbered : IsNumbered (hybrid.with_dropped mid) =
      let l = left_numbered p beside goes.numbered goes.counted step.read_only (set p.kept (p.resident.oldest - p.oldest) (Some (view r)))
      (length-set p.kept (p.resident.oldest - p.oldest) (Some (view r))) in record { live = l.live; numbered = l.numbered } in (
        subst (λ (q : HybridLog). ShedsOne old.resident.frames old.places (log_state p beside) (places_of device) (log_state q beside) (places_of after)) (sym made)
            (rw (← goes.frames, ← goes.places)
            (written_one p beside goes.numbered goes.counted device after r step.read_only was.1 was.2 step.numbers was.3)),
        subst (λ (q : HybridLog). Goes old q beside) (sym made) (record {
          numbered = numbered;
          counted = written_counted p beside goes.numbered goes.counted r step.read_only was.1;
          frames = goes.frames;
          places = goes.places;
        }),
      )
]

steps_are : (n : ℕ) (old new : HybridLog) (beside : Beside) (device after : Shelves) → Goes old old beside
    → trace.ShedsAll {D = Shelves} {R = Receipt} Wrote view n old device new after
    → ShedsMany old.resident.frames old.places n (log_state old beside) (places_of device) (log_state new beside) (places_of after) × Goes old new beside
steps_are zero old new beside device after goes all = (
  (ap (λ (q : HybridLog). log_state q beside) all.0, ap places_of all.1),
  subst (λ (q : HybridLog). Goes old q beside) (sym all.0) goes,
)
steps_are (suc n) old new beside device after goes all =
    let first = steps_are n old all.0 beside device all.1 goes all.2 in
    let last = step_is old all.0 new beside all.1 after first.1 all.3 in
    ((log_state all.0 beside, places_of all.1, first.0, last.0), last.1)

pub room_made : (old new : HybridLog) (beside : Beside) (device after : Shelves) → IsNumbered old → old.unreleased ≡ unreleased (log_state old beside)
    → trace.HasShed {D = Shelves} {R = Receipt} Wrote view old device new after → HasMadeRoom old device new after beside
room_made old new beside device after fit counted shed =
    let made = steps_are shed.count old new beside device after
    (record { numbered = fit; counted = counted; frames = refl; places = refl }) shed.all in
    record { count = shed.count; sheds = made.0; counted = made.1.counted }

-- what holds of the log after that
pub room_right : (old new : HybridLog) (beside : Beside) (device after : Shelves) → IsNumbered old → old.unreleased ≡ unreleased (log_state old beside)
    → trace.HasShed {D = Shelves} {R = Receipt} Wrote view old device new after
    → IsNumbered new × (new.unreleased ≡ unreleased (log_state new beside)) × (new.resident.frames ≡ old.resident.frames) × (new.places ≡ old.places)
room_right old new beside device after fit counted shed =
    let made = (steps_are shed.count old new beside device after
    (record { numbered = fit; counted = counted; frames = refl; places = refl }) shed.all).1 in
    (made.numbered, made.counted, made.frames, made.places)

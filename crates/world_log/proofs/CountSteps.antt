-- Steps of a log, with the places that it counts.
use Rattle.std.proofs.Common.{◌≡◌, ◌∙◌, ℕ, ◌-◌, ◌<◌, Bool, true, List, [], ◌∷◌, ◌++◌, length, length-append, map, refl, sym, ap, subst, arith, inl, inr, nat_lt, if◌then◌else◌}
use Rattle.std.proofs.Common.{Global}
use Rattle.std.specs.declared.sync.Arc.{Arc}
use Rattle.records.specs.declared.pages.Page.{Page}
use Rattle.frames.specs.Resident.{first_mutable, page_of}
use Rattle.hybrid.specs.HybridLog as hybrid
use Rattle.hybrid.specs.HybridLog.{HybridLog, IsHybridLog, IsSealed}
use Rattle.shards.specs.Counted.{Counted, HasLanded, HasTaken, IsAsWritten, with_flight, without_flight}
use Rattle.words.specs.Store.{Bytes}
use Rattle.hybrid.specs.Reserving.{IsReserved}
use Rattle.hybrid.specs.Shedding.{HasShed}
use Rattle.world_model.specs.Logs.{LogState, places_stamped, unreleased, with_installed}
use Rattle.world_log.specs.Places.{Receipt, Shelves, Wrote, view, with_shown}
use Rattle.world_log.specs.Beside.{Agrees, Beside, DoesRelease, DoesRetire, IsAlike, IsFaithful, beside_of, count_flushing, log_state, place_stamped}
use Rattle.world_log.specs.Given.{AreAllGiven}
use Rattle.world_log.specs.declared.queues.Queues.{Queues}
use Rattle.world_log.specs.declared.queues.Flushing.{Flushing}
use Rattle.world_log.specs.declared.queues.Flushing.TheVariants as has
use Rattle.world_log.proofs.Agreeing.{copied_counts, kept_counted, kept_done, late_counted, numbered_of, total, unlinked_done}
use Rattle.world_log.proofs.AllGiven.{room_given}
use Rattle.world_log.proofs.CleanSteps.{faithful_room}
use Rattle.world_log.proofs.LaneSteps.{retire_counts, retired_log}
use Rattle.world_log.proofs.Shedding.{room_made}

-- THE COPY

pub copied_agrees : (old new : Counted) (queues : Queues) (number : ℕ) (page : Arc Page Global) → new ≡ with_flight old → Agrees old queues
    → queues.flushing ≡ has.Nothing → number < first_mutable old.log.resident → page.value ≡ page_of old.log.resident number
    → Agrees new (record queues { flushing = has.Copied number page })
copied_agrees old new queues number page is agrees idle below copied =
    subst (λ (x : Counted). Agrees x (record queues { flushing = has.Copied number page })) (sym is)
    (record {
      counted = copied_counts old.log (beside_of old queues) number page idle agrees.counted;
      in_flight = omega (arith, agrees.in_flight, ap count_flushing idle);
      retired = agrees.retired;
      drained = agrees.drained;
      faithful = (below, λ from. copied);
    })

-- THE FLUSHER COMES BACK

pub one_flies : (c : Counted) (queues : Queues) (number : ℕ) (page : Arc Page Global) (receipt : Receipt) → Agrees c queues
    → queues.flushing ≡ has.Wrote number page receipt → 0 < c.in_flight
one_flies c queues number page receipt agrees is = omega (arith, agrees.in_flight, ap count_flushing is)

module _ (old new : Counted) (queues : Queues) (number : ℕ) (page : Arc Page Global) (receipt : Receipt) (fit : IsHybridLog old.log) (agrees : Agrees old queues)
    (is : queues.flushing ≡ has.Wrote number page receipt) (landed : HasLanded old number page.value (view receipt) new) where
  faithful : IsFaithful old.log (has.Wrote number page receipt)
  faithful = subst (IsFaithful old.log) is agrees.faithful

  -- it came too late only where its page is not sealed any more
  never_sealed : (IsAsWritten old.log number page.value → ⊥) → IsSealed old.log number → ⊥
  never_sealed never sealed = never (sealed, faithful.1 sealed.from)

  pub landed_done : log_state new.log (beside_of new (record queues { flushing = has.Nothing })) ≡ with_installed old.log.resident.frames (log_state old.log (beside_of old queues))
  landed_done = elim landed.how [
    | inl kept ↦
        ap (λ (x : Counted). log_state x.log (beside_of x (record queues { flushing = has.Nothing }))) kept.1
        ∙ kept_done old.log (hybrid.with_receipt old.log number (view receipt)) (beside_of old queues) fit number page receipt is kept.0.0 refl
    | inr late ↦
        ap (λ (x : Counted). log_state x.log (beside_of x (record queues { flushing = has.Nothing }))) late.1
        ∙ unlinked_done old.log old.log (beside_of old queues) fit number page receipt is (never_sealed late.0)
  ]

  pub landed_agrees : Agrees new (record queues { flushing = has.Nothing })
  landed_agrees = elim landed.how [
    | inl kept ↦
        subst (λ (x : Counted). Agrees x (record queues { flushing = has.Nothing })) (sym kept.1)
        (record {
          counted = kept_counted old.log (hybrid.with_receipt old.log number (view receipt)) (beside_of old queues) fit number page receipt (view receipt) is agrees.counted kept.0.0 refl;
          in_flight = omega (arith, agrees.in_flight, ap count_flushing is);
          retired = agrees.retired;
          drained = agrees.drained;
          faithful = tt;
        })
    | inr late ↦
        subst (λ (x : Counted). Agrees x (record queues { flushing = has.Nothing })) (sym late.1)
        (record {
          counted = late_counted old.log (beside_of old queues) number page receipt (view receipt) is agrees.counted;
          in_flight = omega (arith, agrees.in_flight, ap count_flushing is);
          retired = agrees.retired;
          drained = agrees.drained;
          faithful = tt;
        })
  ]

  pub landed_alike : IsAlike old.log new.log
  landed_alike = elim landed.how [
    | inl kept ↦ record { frames = ap (λ (x : Counted). x.log.resident.frames) kept.1; places = ap (λ (x : Counted). x.log.places) kept.1 }
    | inr late ↦ record { frames = ap (λ (x : Counted). x.log.resident.frames) late.1; places = ap (λ (x : Counted). x.log.places) late.1 }
  ]

-- RETIRE, RELEASE

module _ (old new : Counted) (before after : Queues) (r : Receipt) (epoch : ℕ) (taken : HasTaken old (view r) new)
    (items : after.retired.items ≡ before.retired.items ++ (r, epoch) ∷ []) (flushing : after.flushing ≡ before.flushing)
    (drained : after.drained.items ≡ before.drained.items) where
  pub retired_does : DoesRetire true epoch (beside_of old before) (beside_of new after)
  retired_does = (
    r,
    taken.others,
    taken.had,
    λ j. record { flushing = flushing j; unlinked = (taken.is j).unlinked; retired = items j; drained = drained j },
  )

  log_same : new.log ≡ old.log
  log_same = ap (λ (x : Counted). x.log) taken.is

  pub retired_agrees : Agrees old before → Agrees new after
  retired_agrees agrees =
      let done = retired_log old.log (beside_of old before) (beside_of new after) epoch retired_does in
      record {
        counted =
            ap (λ (x : Counted). x.log.unreleased) taken.is ∙ agrees.counted
            ∙ sym (ap (λ (p : HybridLog). unreleased (log_state p (beside_of new after))) log_same ∙ ap unreleased done.1
            ∙ retire_counts (log_state old.log (beside_of old before)) _ epoch refl);
        in_flight =
            omega (
              arith,
              ap (λ (x : Counted). x.in_flight) taken.is,
              agrees.in_flight,
              ap count_flushing flushing,
              ap (λ (l : List (Receipt × ℕ)). length l) items,
              ap (λ (l : List (Receipt × ℕ)). length l) drained,
              length-append before.retired.items ((r, epoch) ∷ []),
            );
        retired = ap (λ (x : Counted). x.retired) taken.is ∙ agrees.retired;
        drained = ap (λ (x : Counted). x.drained) taken.is ∙ agrees.drained;
        faithful =
            subst (λ (f : Flushing). IsFaithful new.log f) (sym flushing)
            (subst (λ (p : HybridLog). IsFaithful p before.flushing) (sym log_same) agrees.faithful);
      }

released_counts : (p : HybridLog) (beside : Beside) (one : Receipt × ℕ) (others : List (Receipt × ℕ)) → beside.drained ≡ one ∷ others
    → p.unreleased ≡ unreleased (log_state p beside) → p.unreleased - 1 ≡ unreleased (log_state p (record beside { drained = others }))
released_counts p beside one others is counted =
    let old : LogState = log_state p beside in
    let new : LogState = log_state p (record beside { drained = others }) in
    let fewer : length (places_stamped old.drained) ≡ length (places_stamped (map place_stamped (one ∷ others))) =
    ap (λ (l : List (Receipt × ℕ)). length (places_stamped (map place_stamped l))) is in
    omega (arith, counted, total old, total new, fewer)

module _ (old new : Counted) (before after : Queues) (one : Receipt × ℕ) (agrees : Agrees old before) (had : before.drained.items ≡ one ∷ after.drained.items)
    (flushing : after.flushing ≡ before.flushing) (retired : after.retired.items ≡ before.retired.items) (freed : new ≡ without_flight old) where
  abbrev less : Counted
  less = record old { log = record old.log { unreleased = old.log.unreleased - 1 }; in_flight = old.in_flight - 1 }

  lt_is : (a b : ℕ) → a < b → nat_lt a b ≡ true
  lt_is a b lt = grind (arith, lt)

  some_fly : 0 < old.in_flight
  some_fly = omega (arith, agrees.in_flight, ap (λ (l : List (Receipt × ℕ)). length l) had)

  pub freed_is : new ≡ less
  freed_is = freed ∙ ap (λ (t : Bool). if t then less else old) (lt_is 0 old.in_flight some_fly)

  beside_is : beside_of less after ≡ record (beside_of old before) { drained = after.drained.items }
  beside_is j = record { flushing = flushing j; unlinked = old.unlinked; retired = retired j; drained = after.drained.items }

  pub released_agrees : Agrees new after
  released_agrees = subst (λ (x : Counted). Agrees x after) (sym freed_is)
      (record {
        counted =
            released_counts old.log (beside_of old before) one after.drained.items had agrees.counted
            ∙ ap (λ (b : Beside). unreleased (log_state old.log b)) (sym beside_is);
        in_flight =
            omega (
              arith,
              agrees.in_flight,
              ap count_flushing flushing,
              ap (λ (l : List (Receipt × ℕ)). length l) had,
              ap (λ (l : List (Receipt × ℕ)). length l) retired,
            );
        retired = agrees.retired;
        drained = agrees.drained;
        faithful = subst (IsFaithful old.log) (sym flushing) agrees.faithful;
      })

  pub released_does : (page : Bytes) (device shown : Shelves) → shown ≡ with_shown device one.0.place page
      → DoesRelease true page old.log (beside_of old before) device new.log (beside_of new after) shown
  released_does page device shown is = (
    one,
    after.drained.items,
    had,
    ap (λ (x : Counted). beside_of x after) freed_is ∙ beside_is,
    is,
    ap (λ (x : Counted). x.log) freed_is,
  )

  pub released_alike : IsAlike old.log new.log
  released_alike =
      record { frames = ap (λ (x : Counted). x.log.resident.frames) freed_is; places = ap (λ (x : Counted). x.log.places) freed_is }

-- ROOM

module _ (old new : Counted) (queues : Queues) (in_flight : new.in_flight ≡ old.in_flight) (unlinked : new.unlinked ≡ old.unlinked)
    (retired : new.retired ≡ old.retired) (drained : new.drained ≡ old.drained) where
  pub beside_same : beside_of new queues ≡ beside_of old queues
  beside_same j = record { flushing = queues.flushing; unlinked = unlinked j; retired = queues.retired.items; drained = queues.drained.items }

  pub roomy_agrees : (device after : Shelves) (count : ℕ) → IsHybridLog old.log → Agrees old queues → IsReserved old.log new.log count
      → HasShed {D = Shelves} {R = Receipt} Wrote view old.log device new.log after → Agrees new queues
  roomy_agrees device after count fit agrees reserved shed = record {
    counted =
        (room_made old.log new.log (beside_of old queues) device after (numbered_of old.log fit) agrees.counted shed).counted
        ∙ ap (λ (b : Beside). unreleased (log_state new.log b)) (sym beside_same);
    in_flight = in_flight ∙ agrees.in_flight;
    retired = retired ∙ agrees.retired;
    drained = drained ∙ agrees.drained;
    faithful = faithful_room old.log new.log count queues.flushing reserved agrees.faithful;
  }

  pub roomy_given : (device after : Shelves) → HasShed {D = Shelves} {R = Receipt} Wrote view old.log device new.log after
      → AreAllGiven device old.log (beside_of old queues) → AreAllGiven after new.log (beside_of new queues)
  roomy_given device after shed given =
      subst (AreAllGiven after new.log) (sym beside_same) (room_given old.log new.log (beside_of old queues) device after shed given)

-- What plans make of the stripes' logs and of the device.
use Rattle.std.proofs.Common.{◌≡◌, ◌≢◌, ℕ, zero, suc, ◌+◌, ◌-◌, ◌<◌, ◌≤◌, Bool, true, false, ◌||◌, List, [], ◌∷◌, ◌++◌, length, length-drop, map, set, replicate, Option, Some, None, refl, sym, ap, ap₂, subst, ◌∙◌, inl, inr, arith, if◌then◌else◌, eq-eqb, ne_eqb, cond, ⊎_elim}
use Rattle.std.specs.Prelude.{slice_get, slice_index_or, option_map}
use Rattle.std.proofs.lemmas.Bool.{cases_eq}
use Rattle.std.proofs.lemmas.List.{get_or-drop}
use Rattle.std.proofs.lemmas.Option.{slice_get_within}
use Rattle.words.specs.Store.{Write, writes_key, weight}
use Rattle.words.specs.Stripes.{stripe_of}
use Rattle.frames.specs.Resident.{Resident, IsResident, first_mutable, next_number, page_of}
use Rattle.frames.specs.Resident as resident
use Rattle.hybrid.specs.HybridLog as hybrid
use Rattle.hybrid.specs.HybridLog.{HybridLog, IsGrown, Kept, receipt_at, receipt_of}
use Rattle.hybrid.specs.Shedding as trace
use Rattle.shards.specs.Rooms as rooms
use Rattle.shards.specs.Rooms.{share}
use Rattle.shards.specs.Counted.{Waiting}
use Rattle.shards.specs.Shards.{shard_log, shard_waiting, waits_of, weigh}
use Rattle.world_model.specs.Enabled.{holds}
use Rattle.world_model.specs.Logs.{LogState, is_full, unreleased}
use Rattle.world_model.specs.Rooms.{StepsAll, is_written_in, AreWritten, HasNoPlace}
use Rattle.world_model.specs.States.{State, log_at, log_of}
use Rattle.world_log.specs.Beside.{Agrees, Beside, IsFaithful, IsNumbered, flights, log_state, place_stamped}
use Rattle.world_log.specs.Given.{AreAllGiven, AreGivenKept, StaysGiven}
use Rattle.world_log.specs.MakingRoom.{HasMadeRoom, ShedsMany}
use Rattle.world_log.specs.Places.{Receipt, Shelves, Wrote, places_of, view}
use Rattle.world_log.specs.PlanLaws.{IsMade, SameValues, logs_lent, with_parts}
use Rattle.world_log.specs.Stripes.{KeepsOthers, lane_beside, lane_counted, lane_log, lane_state, lent, part_in, queues_in, states_of}
use Rattle.world_log.specs.WorldLogs.{AreRising, IsLane, IsWorldLog, state_of}
use Rattle.world_log.specs.declared.queues.Queues.{Queues}
use Rattle.world_log.specs.declared.queues.Flushing.{Flushing}
use Rattle.world_log.specs.Types.{Lane, Stripes}
use Rattle.world_log.specs.declared.logs.WorldLog.{WorldLog}
use Rattle.world_log.proofs.AllGiven.{all_stays, kept_stays, room_kept, room_stays}
use Rattle.world_log.proofs.CleanSteps.{faithful_step}
use Rattle.world_log.proofs.RoomSteps.{full_is, sheds_lift, steps_both}
use Rattle.world_log.proofs.Shedding.{room_made, room_right}

-- LOGS THAT ARE LENT, AMONG ALL

-- the plain log of a lane, where it may have another log
abbrev pub put_one : Lane → Option HybridLog → LogState
put_one lane None = lane_state lane
put_one lane (Some p) = log_state p (lane_beside lane)

abbrev pub put : List Lane → (ℕ → Option HybridLog) → List LogState
put [] logs = []
put (lane ∷ lanes) logs = put_one lane (logs 0) ∷ put lanes (λ i. logs (suc i))

put_length : (lanes : List Lane) (logs : ℕ → Option HybridLog) → length (put lanes logs) ≡ length lanes
put_length [] logs = refl
put_length (lane ∷ lanes) logs = ap suc (put_length lanes (λ i. logs (suc i)))

put_there : (lanes : List Lane) (logs : ℕ → Option HybridLog) (i : ℕ) (lane : Lane) (p : HybridLog) → slice_get lanes i ≡ Some lane
    → logs i ≡ Some p → log_at (put lanes logs) i ≡ log_state p (lane_beside lane)
put_there [] logs i lane p there is = absurd (cc there)
put_there (one ∷ lanes) logs zero lane p there is = ap (put_one one) is ∙ ap (λ (l : Lane). log_state p (lane_beside l)) (some_lane there)
  where
    some_lane : {a b : Lane} → Option.Some a ≡ Some b → a ≡ b
    some_lane x = cc x
put_there (one ∷ lanes) logs (suc i) lane p there is = put_there lanes (λ j. logs (suc j)) i lane p there is

put_set : (lanes : List Lane) (old new : ℕ → Option HybridLog) (i : ℕ) (lane : Lane) (p : HybridLog) → slice_get lanes i ≡ Some lane
    → new i ≡ Some p → ((j : ℕ) → j ≢ i → new j ≡ old j) → put lanes new ≡ set (put lanes old) i (log_state p (lane_beside lane))
put_set [] old new i lane p there is others = absurd (cc there)
put_set (one ∷ lanes) old new zero lane p there is others =
    ap₂ (λ (x : LogState) (l : List LogState). x ∷ l) (ap (put_one one) is ∙ ap (λ (l : Lane). log_state p (lane_beside l)) (some_lane there))
    (ap (put lanes) (λ k j. others (suc j) (λ e. zero_not j e) k))
  where
    some_lane : {a b : Lane} → Option.Some a ≡ Some b → a ≡ b
    some_lane x = cc x

    zero_not : (j : ℕ) → suc j ≡ 0 → ⊥
    zero_not j e = omega (arith, e)
put_set (one ∷ lanes) old new (suc i) lane p there is others =
    ap₂ (λ (x : LogState) (l : List LogState). x ∷ l) (ap (put_one one) (others 0 (λ e. omega (arith, e))))
    (put_set lanes (λ j. old (suc j)) (λ j. new (suc j)) i lane p there is (λ j other. others (suc j) (λ e. other (omega (arith, e)))))

-- they are the logs of these lanes, where each is, or is away and the same
put_is : (lanes others : List Lane) (logs : ℕ → Option HybridLog) → length others ≡ length lanes
    → ((i : ℕ) (lane other : Lane) → slice_get lanes i ≡ Some lane → slice_get others i ≡ Some other → put_one lane (logs i) ≡ lane_state other)
    → put lanes logs ≡ map lane_state others
put_is [] [] logs count each = refl
put_is [] (other ∷ others) logs count each = absurd (omega (arith, count))
put_is (lane ∷ lanes) [] logs count each = absurd (omega (arith, count))
put_is (lane ∷ lanes) (other ∷ others) logs count each =
    ap₂ (λ (x : LogState) (l : List LogState). x ∷ l) (each 0 lane other refl refl)
    (put_is lanes others (λ i. logs (suc i)) (omega (arith, count)) (λ i one two. each (suc i) one two))

-- what is lent of the stripes
pub lent_log : (stripes : Stripes) (i : ℕ) (lane : Lane) → holds stripes.holders.items stripes.acting i ≡ true → slice_get stripes.lanes.items i ≡ Some lane
    → logs_lent stripes i ≡ Some (lane_log lane)
lent_log stripes i lane held there =
    ap (λ (t : Bool). option_map shard_log (if t then part_in (slice_get stripes.lanes.items i) else None)) held
    ∙ ap (λ (o : Option Lane). option_map shard_log (part_in o)) there

pub not_lent : (stripes : Stripes) (i : ℕ) → holds stripes.holders.items stripes.acting i ≡ false → logs_lent stripes i ≡ None
not_lent stripes i away = ap (λ (t : Bool). option_map shard_log (if t then part_in (slice_get stripes.lanes.items i) else None)) away

pub record IsLent (stripes : Stripes) (i : ℕ) (p : HybridLog) : Type 0 where
  pub held : holds stripes.holders.items stripes.acting i ≡ true
  pub lane : Lane
  pub there : slice_get stripes.lanes.items i ≡ Some lane
  pub log : p ≡ lane_log lane

-- what is lent is the log of a lane
pub is_lent : (stripes : Stripes) (i : ℕ) (p : HybridLog) → logs_lent stripes i ≡ Some p → IsLent stripes i p
is_lent stripes i p is = by_holder (holds stripes.holders.items stripes.acting i) refl (slice_get stripes.lanes.items i) refl
  where
    none : {X : Type 0} {x : X} → Option.None ≡ Some x → ⊥
    none x = cc x

    some : {a b : HybridLog} → Option.Some a ≡ Some b → a ≡ b
    some x = cc x

    by_holder : (t : Bool) → holds stripes.holders.items stripes.acting i ≡ t → (o : Option Lane) → slice_get stripes.lanes.items i ≡ o → IsLent stripes i p
    by_holder false away o there = absurd (none (sym (not_lent stripes i away) ∙ is))
    by_holder true held None there =
        absurd (none (sym (ap (λ (t : Bool). option_map shard_log (if t then part_in (slice_get stripes.lanes.items i) else None)) held
        ∙ ap (λ (o : Option Lane). option_map shard_log (part_in o)) there) ∙ is))
    by_holder true held (Some lane) there =
        record { held = held; lane = lane; there = there; log = some (sym is ∙ lent_log stripes i lane held there) }

-- what a shard has beside its log, where that is lent
pub waiting_lent : (old new : Stripes) → KeepsOthers old new → (i : ℕ) (lane other : Lane) → slice_get old.lanes.items i ≡ Some lane
    → slice_get new.lanes.items i ≡ Some other → holds new.holders.items new.acting i ≡ true → shard_waiting other.shard ≡ shard_waiting lane.shard
waiting_lent old new keeps i lane other there at held =
    some_waiting (sym (lent_waits new i other held at) ∙ keeps.waits i
    ∙ lent_waits old i lane ((λ j. holds ((sym keeps.holders j).items) (sym keeps.acting j) i) ∙ held) there)
  where
    some_waiting : {a b : Waiting} → Option.Some a ≡ Some b → a ≡ b
    some_waiting x = cc x

    lent_waits : (stripes : Stripes) (i : ℕ) (lane : Lane) → holds stripes.holders.items stripes.acting i ≡ true → slice_get stripes.lanes.items i ≡ Some lane
        → waits_of (lent stripes) i ≡ Some (shard_waiting lane.shard)
    lent_waits stripes i lane held there =
        ap (λ (t : Bool). option_map shard_waiting (if t then part_in (slice_get stripes.lanes.items i) else None)) held
        ∙ ap (λ (o : Option Lane). option_map shard_waiting (part_in o)) there

some_queues : {a b : Queues} → Option.Some a ≡ Some b → a ≡ b
some_queues x = cc x

pub queues_lent : (old new : Stripes) → KeepsOthers old new → (i : ℕ) (lane other : Lane) → slice_get old.lanes.items i ≡ Some lane
    → slice_get new.lanes.items i ≡ Some other → other.queues ≡ lane.queues
queues_lent old new keeps i lane other there at = some_queues (sym (ap queues_in at) ∙ keeps.queues i ∙ ap queues_in there)

-- so what stands beside the log is the same
pub beside_lent : (old new : Stripes) → KeepsOthers old new → (i : ℕ) (lane other : Lane) → slice_get old.lanes.items i ≡ Some lane
    → slice_get new.lanes.items i ≡ Some other → holds new.holders.items new.acting i ≡ true → lane_beside other ≡ lane_beside lane
beside_lent old new keeps i lane other there at held =
    let queues : other.queues ≡ lane.queues = queues_lent old new keeps i lane other there at in
    let waits : shard_waiting other.shard ≡ shard_waiting lane.shard = waiting_lent old new keeps i lane other there at held in
    λ j. record {
      flushing = (queues j).flushing;
      unlinked = (waits j).unlinked;
      retired = ((queues j).retired).items;
      drained = ((queues j).drained).items;
    }

-- the plain logs, put together from what is lent
lanes_put : (old new : Stripes) → KeepsOthers old new → put old.lanes.items (logs_lent new) ≡ states_of new
lanes_put old new keeps = put_is old.lanes.items new.lanes.items (logs_lent new) keeps.count each
  where
    some_lane : {a b : Lane} → Option.Some a ≡ Some b → a ≡ b
    some_lane x = cc x

    by_holder : (i : ℕ) (lane other : Lane) → slice_get old.lanes.items i ≡ Some lane → slice_get new.lanes.items i ≡ Some other
        → (t : Bool) → holds new.holders.items new.acting i ≡ t → put_one lane (logs_lent new i) ≡ lane_state other
    by_holder i lane other there at true held =
        ap (put_one lane) (lent_log new i other held at)
        ∙ ap (log_state (lane_log other)) (sym (beside_lent old new keeps i lane other there at held))
    by_holder i lane other there at false away =
        ap (put_one lane) (not_lent new i away)
        ∙ ap lane_state (some_lane (sym there ∙ sym (keeps.others i ((λ j. holds ((sym keeps.holders j).items) (sym keeps.acting j) i) ∙ away)) ∙ at))

    each : (i : ℕ) (lane other : Lane) → slice_get old.lanes.items i ≡ Some lane → slice_get new.lanes.items i ≡ Some other
        → put_one lane (logs_lent new i) ≡ lane_state other
    each i lane other there at = by_holder i lane other there at (holds new.holders.items new.acting i) refl

-- A LOG OF ONE LANE

-- the flusher's copy stays right, where pages leave their frames
faithful_one : (old new : HybridLog) (before after : Shelves) (flushing : Flushing) → trace.Sheds {D = Shelves} {R = Receipt} Wrote view old before new after
    → IsFaithful old flushing → IsFaithful new flushing
faithful_one old new before after flushing step faithful =
    faithful_step old new flushing low first pages faithful
  where
    resident_is : new.resident ≡ resident.without_oldest old.resident
    resident_is = elim step.flushed.how [
      | inl has ↦ ap (λ (p : HybridLog). p.resident) (step.dropped ∙ ap hybrid.with_dropped has.1)
      | inr was ↦ ap (λ (p : HybridLog). p.resident) (step.dropped ∙ ap hybrid.with_dropped was.4)
    ]

    oldest_is : new.resident.oldest ≡ old.resident.oldest + 1
    oldest_is = ap (λ (r : Resident). r.oldest) resident_is

    frames_is : new.resident.frames ≡ old.resident.frames
    frames_is = ap (λ (r : Resident). r.frames) resident_is

    size_is : length new.resident.pages ≡ length old.resident.pages - 1
    size_is = ap (λ (r : Resident). length r.pages) resident_is ∙ length-drop 1 old.resident.pages

    low : first_mutable old.resident ≤ first_mutable new.resident
    low = omega (arith, oldest_is, frames_is, size_is, step.read_only)

    first : old.resident.oldest ≤ new.resident.oldest
    first = omega (arith, oldest_is)

    pages : (n : ℕ) → new.resident.oldest ≤ n → n < first_mutable old.resident → page_of new.resident n ≡ page_of old.resident n
    pages n from lt =
        ap (λ (r : Resident). page_of r n) resident_is
        ∙ get_or-drop 1 old.resident.pages (n - (old.resident.oldest + 1)) []
        ∙ ap (λ (k : ℕ). slice_index_or old.resident.pages k []) (omega (arith, from, oldest_is))

pub faithful_all : (n : ℕ) (old new : HybridLog) (before after : Shelves) (flushing : Flushing)
    → trace.ShedsAll {D = Shelves} {R = Receipt} Wrote view n old before new after → IsFaithful old flushing → IsFaithful new flushing
faithful_all zero old new before after flushing all faithful = subst (λ (p : HybridLog). IsFaithful p flushing) (sym all.0) faithful
faithful_all (suc n) old new before after flushing all faithful =
    faithful_one all.0 new all.1 after flushing all.3 (faithful_all n old all.0 before all.1 flushing all.2 faithful)

-- a log that a lane may have, as it is right
pub record IsRight (log : WorldLog) (device : Shelves) (lane : Lane) (p : HybridLog) : Type 0 where
  pub numbered : IsNumbered p
  pub counted : p.unreleased ≡ unreleased (log_state p (lane_beside lane))
  pub faithful : IsFaithful p lane.queues.flushing
  pub frames : p.resident.frames ≡ log.frames
  pub places : p.places ≡ log.limit
  pub kept : AreGivenKept p device

pub lane_right : (log : WorldLog) (i : ℕ) (lane : Lane) → IsWorldLog log → slice_get log.stripes.lanes.items i ≡ Some lane → IsRight log log.device lane (lane_log lane)
lane_right log i lane is there =
    let one : IsLane log.device log.frames log.limit log.epoch lane = is.lanes i lane there in
    record {
      numbered = one.numbered;
      counted = (one.agrees).counted;
      faithful = (one.agrees).faithful;
      frames = one.frames;
      places = one.places;
      kept = (one.given).kept;
    }

-- the lanes are right again, where each log is
pub lanes_right : (log : WorldLog) (stripes : Stripes) (device : Shelves) → IsWorldLog log → KeepsOthers log.stripes stripes → StaysGiven log.device device
    → ((i : ℕ) (lane : Lane) (p : HybridLog) → slice_get log.stripes.lanes.items i ≡ Some lane → logs_lent stripes i ≡ Some p → IsRight log device lane p)
    → IsWorldLog (with_parts log stripes device)
lanes_right log stripes device is keeps stays right = record {
  even = record {
    lanes = keeps.count ∙ (is.even).lanes ∙ sym (ap (λ h. length h.items) keeps.holders);
    some = subst (λ (l : List (Option ℕ)). 1 ≤ length l) (sym (ap (λ h. h.items) keeps.holders)) (is.even).some;
    most = subst (λ (l : List (Option ℕ)). length l ≤ 64) (sym (ap (λ h. h.items) keeps.holders)) (is.even).most;
  };
  lanes = λ i other at. by_old i other at (slice_get log.stripes.lanes.items i) refl;
}
  where
    none : {X : Type 0} {x : X} → Option.None ≡ Some x → ⊥
    none x = cc x

    some_lane : {a b : Lane} → Option.Some a ≡ Some b → a ≡ b
    some_lane x = cc x

    with_given : (lane : Lane) → IsLane log.device log.frames log.limit log.epoch lane → IsLane device log.frames log.limit log.epoch lane
    with_given lane one = record {
      agrees = one.agrees;
      numbered = one.numbered;
      frames = one.frames;
      places = one.places;
      stamps = one.stamps;
      given = all_stays log.device device (lane_log lane) (lane_beside lane) stays one.given;
    }

    by_holder : (i : ℕ) (lane other : Lane) → slice_get log.stripes.lanes.items i ≡ Some lane → slice_get stripes.lanes.items i ≡ Some other
        → (t : Bool) → holds stripes.holders.items stripes.acting i ≡ t → IsLane device log.frames log.limit log.epoch other
    by_holder i lane other there at false away =
        subst (IsLane device log.frames log.limit log.epoch)
        (some_lane (sym there ∙ sym (keeps.others i ((λ j. holds ((sym keeps.holders j).items) (sym keeps.acting j) i) ∙ away)) ∙ at))
        (with_given lane (is.lanes i lane there))
    by_holder i lane other there at true held =
        let one : IsRight log device lane (lane_log other) = right i lane (lane_log other) there (lent_log stripes i other held at) in
        let queues : other.queues ≡ lane.queues = queues_lent log.stripes stripes keeps i lane other there at in
        let waits : shard_waiting other.shard ≡ shard_waiting lane.shard = waiting_lent log.stripes stripes keeps i lane other there at held in
        let beside : lane_beside other ≡ lane_beside lane = beside_lent log.stripes stripes keeps i lane other there at held in
        let old : Agrees (lane_counted lane) lane.queues = (is.lanes i lane there).agrees in
        let was : AreAllGiven device (lane_log lane) (lane_beside lane) =
        all_stays log.device device (lane_log lane) (lane_beside lane) stays (is.lanes i lane there).given in
        record {
          agrees = record {
            counted = one.counted ∙ ap (λ (b : Beside). unreleased (log_state (lane_log other) b)) (sym beside);
            in_flight = ap (λ (w : Waiting). w.in_flight) waits ∙ old.in_flight ∙ ap flights (sym queues);
            retired = ap (λ (w : Waiting). w.retired) waits ∙ old.retired;
            drained = ap (λ (w : Waiting). w.drained) waits ∙ old.drained;
            faithful = subst (λ (q : Queues). IsFaithful (lane_log other) q.flushing) (sym queues) one.faithful;
          };
          numbered = one.numbered;
          frames = one.frames;
          places = one.places;
          stamps = subst (λ (b : Beside). AreRising log.epoch (map place_stamped b.retired)) (sym beside) (is.lanes i lane there).stamps;
          given = subst (AreAllGiven device (lane_log other)) (sym beside)
              (record { kept = one.kept; flushing = was.flushing; unlinked = was.unlinked; retired = was.retired; drained = was.drained });
        }

    by_old : (i : ℕ) (other : Lane) → slice_get stripes.lanes.items i ≡ Some other → (o : Option Lane) → slice_get log.stripes.lanes.items i ≡ o
        → IsLane device log.frames log.limit log.epoch other
    by_old i other at None there = absurd (none (sym (sym (ap queues_in at) ∙ keeps.queues i ∙ ap queues_in there)))
    by_old i other at (Some lane) there = by_holder i lane other there at (holds stripes.holders.items stripes.acting i) refl

-- SHARES

share_here : (n i : ℕ) (w : Write) (ws : List Write) → stripe_of n w.0 ≡ i → share n i (w ∷ ws) ≡ cond (writes_key ws w.0) 0 (weigh w) + share n i ws
share_here n i w ws at = ap (λ b. cond b (cond (writes_key ws w.0) 0 (weigh w)) 0 + share n i ws) (eq-eqb (stripe_of n w.0) i at)

share_away : (n i : ℕ) (w : Write) (ws : List Write) → stripe_of n w.0 ≢ i → share n i (w ∷ ws) ≡ share n i ws
share_away n i w ws ne = ap (λ b. cond b (cond (writes_key ws w.0) 0 (weigh w)) 0 + share n i ws) (ne_eqb (stripe_of n w.0) i ne) ∙ zero_more (share n i ws)
  where
    zero_more : (k : ℕ) → 0 + k ≡ k
    zero_more k = omega arith

pub share_light : (n i : ℕ) (ws : List Write) → share n i ws ≤ weight ws
share_light n i [] = omega arith
share_light n i (w ∷ ws) = ⊎_elim
    (λ at. omega (arith, share_here n i w ws at, share_light n i ws))
    (λ ne. omega (arith, share_away n i w ws ne, share_light n i ws))
    (cases_eq (stripe_of n w.0) i)

written_here : (n i : ℕ) (w : Write) (ws : List Write) → stripe_of n w.0 ≡ i → is_written_in n (w ∷ ws) i ≡ true
written_here n i w ws at = ap (λ b. b || is_written_in n ws i) (eq-eqb (stripe_of n w.0) i at)

written_away : (n i : ℕ) (w : Write) (ws : List Write) → stripe_of n w.0 ≢ i → is_written_in n (w ∷ ws) i ≡ is_written_in n ws i
written_away n i w ws ne = ap (λ b. b || is_written_in n ws i) (ne_eqb (stripe_of n w.0) i ne)

-- a stripe with a share is written to
share_written : (n i : ℕ) (ws : List Write) → 0 < share n i ws → is_written_in n ws i ≡ true
share_written n i [] some = absurd (omega (arith, some))
share_written n i (w ∷ ws) some = ⊎_elim
    (λ at. written_here n i w ws at)
    (λ ne. written_away n i w ws ne ∙ share_written n i ws (omega (arith, some, share_away n i w ws ne)))
    (cases_eq (stripe_of n w.0) i)

-- one that is not has none
pub unwritten_share : (n i : ℕ) (ws : List Write) → is_written_in n ws i ≡ false → share n i ws ≡ 0
unwritten_share n i ws none = by_share (share n i ws) refl
  where
    by_share : (k : ℕ) → share n i ws ≡ k → share n i ws ≡ 0
    by_share zero is = is
    by_share (suc k) is = absurd (never (sym (share_written n i ws (omega (arith, is))) ∙ none))
      where
        never : true ≡ false → ⊥
        never x = cc x

written_all : (n i : ℕ) (ws : List Write) (count : ℕ) → is_written_in n ws i ≡ true → AreWritten n ws (replicate count i)
written_all n i ws zero is = tt
written_all n i ws (suc count) is = (is, written_all n i ws count is)

written_both : (n : ℕ) (ws : List Write) (one other : List ℕ) → AreWritten n ws one → AreWritten n ws other → AreWritten n ws (one ++ other)
written_both n ws [] other first second = second
written_both n ws (i ∷ one) other first second = (first.0, written_both n ws one other first.1 second)

-- ROOM IS MADE

module _ (rest : State) (log : WorldLog) (writes : List Write) (is : IsWorldLog log) where
  abbrev pub lanes : List Lane
  lanes = log.stripes.lanes.items

  abbrev pub n : ℕ
  n = length log.stripes.holders.items

  -- the plain state, with these logs and places
  abbrev pub made_state : (ℕ → Option HybridLog) → Shelves → State
  made_state logs device = record (state_of rest log) { logs = put lanes logs; places = places_of device }

  -- how far room was made
  pub record Reached (logs : ℕ → Option HybridLog) (device : Shelves) : Type 0 where
    pub stripes : List ℕ
    pub written : AreWritten n writes stripes
    pub sheds : StepsAll (made_state (logs_lent log.stripes) log.device) stripes (made_state logs device)
    pub right : (i : ℕ) (lane : Lane) (p : HybridLog) → slice_get lanes i ≡ Some lane → logs i ≡ Some p → IsRight log device lane p
    pub there : (i : ℕ) (p : HybridLog) → logs i ≡ Some p → (lane : Lane) × (slice_get lanes i ≡ Some lane)
    pub stays : StaysGiven log.device device

  reached_start : (logs : ℕ → Option HybridLog) (device : Shelves) → ((i : ℕ) → logs i ≡ logs_lent log.stripes i) → device ≡ log.device → Reached logs device
  reached_start logs device same_logs same_device =
      subst (λ (l : ℕ → Option HybridLog). Reached l device) (λ k i. sym (same_logs i) k)
      (subst (λ (d : Shelves). Reached (logs_lent log.stripes) d) (sym same_device)
      (record {
        stripes = [];
        written = tt;
        sheds = refl;
        right = λ i lane p there has.
            let one : IsLent log.stripes i p = is_lent log.stripes i p has in
            subst (IsRight log log.device lane) (ap lane_log (some_lane (sym there ∙ one.there)) ∙ sym one.log) (lane_right log i lane is there);
        there = λ i p has. let one : IsLent log.stripes i p = is_lent log.stripes i p has in (one.lane, one.there);
        stays = λ r given. given;
      }))
    where
      some_lane : {a b : Lane} → Option.Some a ≡ Some b → a ≡ b
      some_lane x = cc x

  reached_more : (i : ℕ) (logs new : ℕ → Option HybridLog) (device after : Shelves) → Reached logs device
      → rooms.RoomAt Wrote view n i writes logs device new after → Reached new after
  reached_more i logs new device after reached (inl none) =
      subst (λ (l : ℕ → Option HybridLog). Reached l after) (λ k j. sym (none.1 j) k) (subst (Reached logs) (sym none.2) reached)
  reached_more i logs new device after reached (inr some) = record {
    stripes = reached.stripes ++ replicate made.count i;
    written = written_both n writes reached.stripes (replicate made.count i) reached.written
        (written_all n i writes made.count (share_written n i writes some.0));
    sheds =
        steps_both (made_state (logs_lent log.stripes) log.device) reached.stripes (made_state logs device) (replicate made.count i) (made_state new after)
        reached.sheds (subst (StepsAll (made_state logs device) (replicate made.count i)) same_state lifted);
    right = λ j lane p there has. elim (cases_eq j i) as (λ _. IsRight log after lane p) [
      | inl here ↦ right_here lane p
          (some_lane (sym at ∙ ap (slice_get lanes) (sym here) ∙ there))
          (some_log (sym shed.left ∙ ap new (sym here) ∙ has))
      | inr other ↦ right_stays lane p (reached.right j lane p there (sym (shed.others j other) ∙ has))
    ];
    there = λ j p has. elim (cases_eq j i) as (λ _. (lane : Lane) × (slice_get lanes j ≡ Some lane)) [
      | inl here ↦ (own, ap (slice_get lanes) here ∙ at)
      | inr other ↦ reached.there j p (sym (shed.others j other) ∙ has)
    ];
    stays = λ r given. more r (reached.stays r given);
  }
    where
      some_lane : {a b : Lane} → Option.Some a ≡ Some b → a ≡ b
      some_lane x = cc x

      some_log : {a b : HybridLog} → Option.Some a ≡ Some b → a ≡ b
      some_log x = cc x

      shed : rooms.ShedsAt Wrote view i logs device new after
      shed = some.1

      own : Lane
      own = (reached.there i shed.was shed.there).0

      at : slice_get lanes i ≡ Some own
      at = (reached.there i shed.was shed.there).1

      was : IsRight log device own shed.was
      was = reached.right i own shed.was at shed.there

      made : HasMadeRoom shed.was device shed.is after (lane_beside own)
      made = room_made shed.was shed.is (lane_beside own) device after was.numbered was.counted shed.shed

      more : StaysGiven device after
      more = room_stays shed.was shed.is device after shed.shed

      below : i < length lanes
      below = slice_get_within lanes i own at

      lifted : StepsAll (made_state logs device) (replicate made.count i)
          (record (made_state logs device) { logs = set (put lanes logs) i (log_state shed.is (lane_beside own)); places = places_of after })
      lifted =
          sheds_lift (made_state logs device) i made.count (log_state shed.is (lane_beside own)) (places_of after)
          (omega (arith, below, put_length lanes logs)) (omega (arith, below, (is.even).lanes))
          (subst (λ (l : LogState). ShedsMany log.frames log.limit made.count l (places_of device) (log_state shed.is (lane_beside own)) (places_of after))
          (sym (put_there lanes logs i own shed.was at shed.there))
          (subst (λ (f : ℕ). ShedsMany f log.limit made.count (log_state shed.was (lane_beside own)) (places_of device) (log_state shed.is (lane_beside own)) (places_of after)) was.frames
          (subst (λ (l : ℕ). ShedsMany shed.was.resident.frames l made.count (log_state shed.was (lane_beside own)) (places_of device) (log_state shed.is (lane_beside own)) (places_of after)) was.places
          made.sheds)))

      same_state : (record (made_state logs device) { logs = set (put lanes logs) i (log_state shed.is (lane_beside own)); places = places_of after }) ≡ made_state new after
      same_state = ap (λ (l : List LogState). let s : State = record (made_state logs device) { logs = l; places = places_of after } in s)
          (sym (put_set lanes logs new i own shed.is at shed.left shed.others))

      fine : IsRight log after own shed.is
      fine =
          let done = room_right shed.was shed.is (lane_beside own) device after was.numbered was.counted shed.shed in
          record {
            numbered = done.0;
            counted = done.1;
            faithful = faithful_all (shed.shed).count shed.was shed.is device after own.queues.flushing (shed.shed).all was.faithful;
            frames = done.2 ∙ was.frames;
            places = done.3 ∙ was.places;
            kept = room_kept shed.was shed.is device after shed.shed was.kept;
          }

      right_here : (lane : Lane) (p : HybridLog) → own ≡ lane → shed.is ≡ p → IsRight log after lane p
      right_here lane p same_lane same_log = subst (IsRight log after lane) same_log (subst (λ (l : Lane). IsRight log after l shed.is) same_lane fine)

      right_stays : (lane : Lane) (p : HybridLog) → IsRight log device lane p → IsRight log after lane p
      right_stays lane p old = record {
        numbered = old.numbered;
        counted = old.counted;
        faithful = old.faithful;
        frames = old.frames;
        places = old.places;
        kept = kept_stays device after p more old.kept;
      }

  reached : (count : ℕ) (new : ℕ → Option HybridLog) (after : Shelves)
      → rooms.MakesRoom Wrote view n count writes (logs_lent log.stripes) log.device new after → Reached new after
  reached zero new after made = reached_start new after made.0 made.1
  reached (suc count) new after made = reached_more count made.0 new made.1 after (reached count made.0 made.1 made.2) made.3

  module _ (stripes : Stripes) (device : Shelves) (keeps : KeepsOthers log.stripes stripes) (values : SameValues log.stripes stripes)
      (done : Reached (logs_lent stripes) device) where
    end_state : made_state (logs_lent stripes) device ≡ state_of rest (with_parts log stripes device)
    end_state = λ j. record rest {
      holders = sym (ap (λ h. h.items) keeps.holders) j;
      stores = sym values.stores j;
      marks = sym values.marks j;
      logs = lanes_put log.stripes stripes keeps j;
      places = places_of device;
      epoch = log.epoch;
      frames = log.frames;
      limit = log.limit;
    }

    start_state : made_state (logs_lent log.stripes) log.device ≡ state_of rest log
    start_state =
        ap (λ (l : List LogState). let s : State = record (state_of rest log) { logs = l } in s)
        (lanes_put log.stripes log.stripes (record { holders = refl; acting = refl; count = refl; queues = λ i. refl; others = λ i away. refl; waits = λ i. refl }))

    pub made_is : IsMade rest log (with_parts log stripes device) writes
    made_is = record {
      stripes = done.stripes;
      written = done.written;
      sheds = subst (λ (s : State). StepsAll s done.stripes (state_of rest (with_parts log stripes device))) start_state
          (subst (StepsAll (made_state (logs_lent log.stripes) log.device) done.stripes) end_state done.sheds);
      log = lanes_right log stripes device is keeps done.stays done.right;
      given = done.stays;
    }

    pub full_state : (i : ℕ) → rooms.IsFullAt (logs_lent stripes) i
        → is_full log.limit (log_of (state_of rest (with_parts log stripes device)) i) ≡ true
    full_state i full =
        let own = done.there i full.log full.there in
        let right : IsRight log device own.0 full.log = done.right i own.0 full.log own.1 full.there in
        ap (λ (s : State). is_full log.limit (log_of s i)) (sym end_state)
        ∙ ap (is_full log.limit) (put_there lanes (logs_lent stripes) i own.0 full.log own.1 full.there)
        ∙ ap (λ (l : ℕ). is_full l (log_state full.log (lane_beside own.0))) (sym right.places)
        ∙ full_is full.log (lane_beside own.0) right.numbered right.counted full.full

pub room_made_is : (rest : State) (log : WorldLog) (stripes : Stripes) (device : Shelves) (writes : List Write)
    → IsWorldLog log → KeepsOthers log.stripes stripes → SameValues log.stripes stripes
    → rooms.MakesRoom Wrote view (length log.stripes.holders.items) (length log.stripes.holders.items) writes (logs_lent log.stripes) log.device (logs_lent stripes) device
    → IsMade rest log (with_parts log stripes device) writes
room_made_is rest log stripes device writes is keeps values made =
    made_is rest log writes is stripes device keeps values
    (reached rest log writes is (length log.stripes.holders.items) (logs_lent stripes) device made)

pub room_met_is : (rest : State) (log : WorldLog) (stripes : Stripes) (device : Shelves) (writes : List Write) (i : ℕ)
    → IsWorldLog log → KeepsOthers log.stripes stripes → SameValues log.stripes stripes → 0 < share (length log.stripes.holders.items) i writes
    → i < length log.stripes.holders.items
    → rooms.MakesRoom Wrote view (length log.stripes.holders.items) (suc i) writes (logs_lent log.stripes) log.device (logs_lent stripes) device
    → rooms.IsFullAt (logs_lent stripes) i
    → IsMade rest log (with_parts log stripes device) writes × (is_written_in (length log.stripes.holders.items) writes i ≡ true)
    × HasNoPlace (state_of rest (with_parts log stripes device)) i
room_met_is rest log stripes device writes i is keeps values some below made full =
    let done = reached rest log writes is (suc i) (logs_lent stripes) device made in (
      made_is rest log writes is stripes device keeps values done,
      share_written (length log.stripes.holders.items) i writes some,
      full_state rest log writes is stripes device keeps values done i full,
    )

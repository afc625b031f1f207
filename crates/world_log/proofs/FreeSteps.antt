-- Own steps in one stripe: what becomes of its places that wait.
use Rattle.std.proofs.Common.{◌≡◌, ℕ, zero, suc, ◌+◌, ◌<◌, Bool, true, false, ◌&&◌, ◌||◌, not, List, [], ◌∷◌, ◌++◌, length, length-append, map, get_or, set, replicate, Option, Some, None, nat_lt, nat_le, refl, sym, ap, ap₂, subst, ◌∙◌, arith, length-set}
use Rattle.std.specs.Prelude.{slice_get}
use Rattle.std.specs.Bool.{OnFalse, OnTrue}
use Rattle.std.proofs.lemmas.Bool.{ltb-true}
use Rattle.std.proofs.lemmas.List.{get_or-set_same, length-map}
use Rattle.words.specs.Store.{Bytes}
use Rattle.world_model.specs.declared.event.Event.TheVariants as event
use Rattle.world_model.specs.Logs.{LogState, Stamped, LAST_PAGE, new_log, next_page, is_full, with_retired, retired_from, with_drained, drained_from, with_released, released_from, dropped, with_receipt}
use Rattle.world_model.specs.States.{ClientState, State, fresh, log_at, log_of, start}
use Rattle.world_model.specs.Advancing.{When}
use Rattle.world_model.specs.Enabled.{are_none, holds, is_enabled_in, may_drain}
use Rattle.world_model.specs.Effects.{Unlinks, StopsFull, Cleans}
use Rattle.world_model.specs.Releasing.{after_retire, after_drain, after_release}
use Rattle.world_model.specs.Rooms.{Leaves, Frees, Retires, Drains, Releases, Steps, ByPage, ByPlace, StepsAll, HasNoPlace, are_held_back, is_spent}
use Rattle.world_log.specs.Freeing.{HasCleaned, HasFreed, HasMetFull, HasStepped, IsCold, SameWaiting, StaysFull, count_waiting, waiting, waiting_in}
use Rattle.world_log.specs.Given.{StaysGiven}
use Rattle.world_log.specs.Cleaning.{DoesUnlink}
use Rattle.world_log.specs.Places.{Shelves}
use Rattle.world_log.specs.PlanLaws.{SameValues}
use Rattle.world_log.specs.Beside.{Beside, IsNumbered, log_state}
use Rattle.world_log.specs.Stripes.{KeepsOthers, lane_beside, lane_log, lane_state, states_of}
use Rattle.world_log.specs.WorldLogs.{AreRising, IsWorldLog, KeepsHeld, Took, state_of, stays_of, with_values}
use Rattle.world_log.specs.Types.{Lane, Stripes}
use Rattle.world_log.specs.declared.logs.WorldLog.{WorldLog}
use Rattle.world_log.proofs.Held.{held_same}
use Rattle.world_log.proofs.LaneSteps.{drain_counts, log_there, reached, retire_counts, with_both}
use Rattle.world_log.proofs.Planning.{beside_lent}
use Rattle.world_log.proofs.RoomSteps.{cleaned, met_full, met_waits, steps_last, one_more, steps_both}
use Rattle.world_log.proofs.Values.{values_state}

-- STEPS, ONE AFTER THE OTHER

both : (a b : Bool) → (a && b) ≡ true → (a ≡ true) × (b ≡ true)
both true b is = (refl, is)
both false b is = cc is

pub done_is : (t : Bool) (P Q : Type 0) → t ≡ true → When t P Q → P
done_is true P Q is when = when
done_is false P Q is when = absurd (cc is)

pub not_done : (t : Bool) (P Q : Type 0) → t ≡ false → When t P Q → Q
not_done false P Q is when = when
not_done true P Q is when = absurd (cc is)

pub held_both : (a b c : Stripes) → KeepsHeld a b → KeepsHeld b c → KeepsHeld a c
held_both a b c one two = record {
  holders = two.holders ∙ one.holders;
  rooms = λ i d lane held there.
      let first = one.rooms i d lane held there in
      let second = two.rooms i d first.0 (subst (λ v. get_or v.items i None ≡ Some d) (sym one.holders) held) first.1 in
      (second.0, second.1, λ weight room. second.2 weight (first.2 weight room));
}

pub freed_none : (stays : List (Option ℕ)) (i : ℕ) (old : WorldLog) → IsWorldLog old → HasFreed stays i old old
freed_none stays i old is = record {
  count = 0;
  steps = λ rest same. refl;
  log = is;
  given = λ receipt given. given;
  held = held_same old.stripes;
}

pub freed_more : (stays : List (Option ℕ)) (i : ℕ) (old mid new : WorldLog) → HasFreed stays i old mid
    → ((rest : State) → stays_of rest ≡ stays → Steps (state_of rest mid) i (state_of rest new))
    → IsWorldLog new → StaysGiven mid.device new.device → KeepsHeld mid.stripes new.stripes → HasFreed stays i old new
freed_more stays i old mid new freed step is given held = record {
  count = suc freed.count;
  steps = λ rest same.
      subst (λ (stripes : List ℕ). StepsAll (state_of rest old) stripes (state_of rest new)) (one_more freed.count i)
      (steps_last (state_of rest old) (replicate freed.count i) (state_of rest mid) i (state_of rest new) (freed.steps rest same) (step rest same));
  log = is;
  given = λ receipt was. given receipt (freed.given receipt was);
  held = held_both old.stripes mid.stripes new.stripes freed.held held;
}

pub freed_same : (stays : List (Option ℕ)) (i : ℕ) (old mid new : WorldLog) → HasFreed stays i old mid
    → ((rest : State) → stays_of rest ≡ stays → state_of rest new ≡ state_of rest mid)
    → IsWorldLog new → StaysGiven mid.device new.device → KeepsHeld mid.stripes new.stripes → HasFreed stays i old new
freed_same stays i old mid new freed same_state is given held = record {
  count = freed.count;
  steps = λ rest same. subst (λ (s : State). StepsAll (state_of rest old) (replicate freed.count i) s) (sym (same_state rest same)) (freed.steps rest same);
  log = is;
  given = λ receipt was. given receipt (freed.given receipt was);
  held = held_both old.stripes mid.stripes new.stripes freed.held held;
}

more_of : (a b i : ℕ) → replicate a i ++ replicate b i ≡ replicate (a + b) i
more_of zero b i = ap (λ (n : ℕ). replicate n i) (none_more b)
  where
    none_more : (b : ℕ) → b ≡ 0 + b
    none_more b = omega arith
more_of (suc a) b i = ap (λ (l : List ℕ). i ∷ l) (more_of a b i) ∙ ap (λ (n : ℕ). replicate n i) (one_later a b)
  where
    one_later : (a b : ℕ) → suc (a + b) ≡ suc a + b
    one_later a b = omega arith

pub freed_both : (stays : List (Option ℕ)) (i : ℕ) (old mid new : WorldLog) → HasFreed stays i old mid → HasFreed stays i mid new → HasFreed stays i old new
freed_both stays i old mid new one two = record {
  count = one.count + two.count;
  steps = λ rest same.
      subst (λ (stripes : List ℕ). StepsAll (state_of rest old) stripes (state_of rest new)) (more_of one.count two.count i)
      (steps_both (state_of rest old) (replicate one.count i) (state_of rest mid) (replicate two.count i) (state_of rest new) (one.steps rest same) (two.steps rest same));
  log = two.log;
  given = λ receipt was. two.given receipt (one.given receipt was);
  held = held_both old.stripes mid.stripes new.stripes one.held two.held;
}

-- WHAT A STEP IS

pub retire_step : (rest : State) (i : ℕ) (old new : WorldLog) → is_enabled_in (state_of rest old) (event.Retire i) ≡ true
    → Took rest (event.Retire i) old new → Steps (state_of rest old) i (state_of rest new)
retire_step rest i old new is took =
    let test = both _ _ is in
    ByPlace (ltb-true _ _ test.0) (subst (Frees (state_of rest old) i) (sym (done_is _ _ _ is took)) (Retires test.1))

pub drain_step : (rest : State) (i : ℕ) (old new : WorldLog) → is_enabled_in (state_of rest old) (event.Drain i) ≡ true
    → Took rest (event.Drain i) old new → Steps (state_of rest old) i (state_of rest new)
drain_step rest i old new is took =
    let test = both _ _ is in
    ByPlace (ltb-true _ _ test.0) (subst (Frees (state_of rest old) i) (sym (done_is _ _ _ is took)) (Drains test.1))

pub release_step : (rest : State) (i : ℕ) (page : Bytes) (old new : WorldLog) → is_enabled_in (state_of rest old) (event.Release i page) ≡ true
    → Took rest (event.Release i page) old new → Steps (state_of rest old) i (state_of rest new)
release_step rest i page old new is took =
    let test = both _ _ is in
    ByPlace (ltb-true _ _ test.0) (subst (Frees (state_of rest old) i) (sym (done_is _ _ _ is took)) (Releases page test.1))

-- a state whose clients have these stays
abbrev pub staying : Option ℕ → ClientState
staying stay = record fresh { stay = stay }

abbrev pub resting : List (Option ℕ) → State
resting stays = record (start 0 0 0 0) { clients = map staying stays }

pub rests_so : (stays : List (Option ℕ)) → stays_of (resting stays) ≡ stays
rests_so [] = refl
rests_so (stay ∷ stays) = ap (λ (l : List (Option ℕ)). stay ∷ l) (rests_so stays)

-- WHAT BECOMES OF ITS LOG

pub log_within : (log : WorldLog) (i : ℕ) → IsWorldLog log → i < length log.stripes.holders.items → i < length (states_of log.stripes)
log_within log i is within = omega (arith, within, (is.even).lanes, length-map log.stripes.lanes.items lane_state)

-- the log of a stripe is another
record Moved (i : ℕ) (old new : WorldLog) (later : LogState) : Type 0 where
  logs : states_of new.stripes ≡ set (states_of old.stripes) i later
  limit : new.limit ≡ old.limit

log_now : (i : ℕ) (old new : WorldLog) (later : LogState) → i < length (states_of old.stripes) → Moved i old new later
    → log_at (states_of new.stripes) i ≡ later
log_now i old new later below moved =
    ap (λ (l : List LogState). log_at l i) moved.logs ∙ get_or-set_same (states_of old.stripes) i later new_log below

waiting_set : (logs : List LogState) (i : ℕ) (new : LogState) → i < length logs
    → waiting (set logs i new) + count_waiting (log_at logs i) ≡ waiting logs + count_waiting new
waiting_set [] i new below = absurd (omega (arith, below))
waiting_set (log ∷ logs) zero new below = omega arith
waiting_set (log ∷ logs) (suc i) new below = omega (arith, waiting_set logs i new (omega (arith, below)))

waits_now : (i : ℕ) (old new : WorldLog) (later : LogState) → i < length (states_of old.stripes) → Moved i old new later
    → waiting_in new.stripes + count_waiting (log_at (states_of old.stripes) i) ≡ waiting_in old.stripes + count_waiting later
waits_now i old new later below moved =
    subst (λ (l : List LogState). waiting l + count_waiting (log_at (states_of old.stripes) i) ≡ waiting_in old.stripes + count_waiting later)
    (sym moved.logs) (waiting_set (states_of old.stripes) i later below)

full_now : (i : ℕ) (old new : WorldLog) (later : LogState) → i < length (states_of old.stripes) → Moved i old new later
    → ((limit : ℕ) → is_full limit later ≡ is_full limit (log_at (states_of old.stripes) i)) → StaysFull i old new
full_now i old new later below moved same rest full =
    (λ j. is_full (moved.limit j) (log_now i old new later below moved j)) ∙ same old.limit ∙ full

moved_by : (rest : State) (i : ℕ) (old new : WorldLog) (later : LogState) (s : State) → s.logs ≡ set (states_of old.stripes) i later → s.limit ≡ old.limit
    → state_of rest new ≡ s → Moved i old new later
moved_by rest i old new later s logs limit is = record {
  logs = ap (λ (x : State). x.logs) is ∙ logs;
  limit = ap (λ (x : State). x.limit) is ∙ limit;
}

-- RETIRE

retire_moved : (i : ℕ) (old new : WorldLog) → is_enabled_in (state_of (start 0 0 0 0) old) (event.Retire i) ≡ true
    → Took (start 0 0 0 0) (event.Retire i) old new → Moved i old new (with_retired (log_at (states_of old.stripes) i) old.epoch)
retire_moved i old new is took =
    moved_by (start 0 0 0 0) i old new _ (after_retire (state_of (start 0 0 0 0) old) i) refl refl (done_is _ _ _ is took)

retired_waits : (log : LogState) (unlinked : List ℕ) (epoch : ℕ) → log.unlinked ≡ unlinked → count_waiting (retired_from log unlinked epoch) ≡ count_waiting log
retired_waits log [] epoch is = refl
retired_waits log (place ∷ others) epoch is =
    omega (arith, ap (λ (l : List ℕ). length l) is, length-append log.retired (record { place = place; epoch = epoch } ∷ []))

retired_full : (limit : ℕ) (log : LogState) (unlinked : List ℕ) (epoch : ℕ) → log.unlinked ≡ unlinked
    → is_full limit (retired_from log unlinked epoch) ≡ is_full limit log
retired_full limit log [] epoch is = refl
retired_full limit log (place ∷ others) epoch is =
    ap (λ (n : ℕ). nat_le limit n || nat_lt LAST_PAGE (next_page log)) (retire_counts log (place ∷ others) epoch is)

retired_fewer : (log : LogState) (unlinked : List ℕ) (epoch : ℕ) → log.unlinked ≡ unlinked → not (are_none unlinked) ≡ true
    → length (retired_from log unlinked epoch).unlinked < length log.unlinked
retired_fewer log [] epoch is some = absurd (cc some)
retired_fewer log (place ∷ others) epoch is some = omega (arith, ap (λ (l : List ℕ). length l) is)

pub record Retired (i : ℕ) (old new : WorldLog) : Type 0 where
  pub same : waiting_in new.stripes ≡ waiting_in old.stripes
  pub full : StaysFull i old new
  pub fewer : length (log_at (states_of new.stripes) i).unlinked < length (log_at (states_of old.stripes) i).unlinked

pub retire_one : (i : ℕ) (old new : WorldLog) → IsWorldLog old → i < length old.stripes.holders.items
    → is_enabled_in (state_of (start 0 0 0 0) old) (event.Retire i) ≡ true → Took (start 0 0 0 0) (event.Retire i) old new → Retired i old new
retire_one i old new is within enabled took =
    let log : LogState = log_at (states_of old.stripes) i in
    let moved = retire_moved i old new enabled took in
    let below = log_within old i is within in
    record {
      same = omega (arith, waits_now i old new _ below moved, retired_waits log log.unlinked old.epoch refl);
      full = full_now i old new _ below moved (λ limit. retired_full limit log log.unlinked old.epoch refl);
      fewer = subst (λ (l : LogState). length l.unlinked < length log.unlinked) (sym (log_now i old new _ below moved))
          (retired_fewer log log.unlinked old.epoch refl (both _ _ enabled).1);
    }

-- where none was retired, none is unlinked
false_right : (a b : Bool) → a ≡ true → (a && b) ≡ false → b ≡ false
false_right true b is false_is = false_is
false_right false b is false_is = absurd (cc is)

none_of : {A : Type 0} (l : List A) → not (are_none l) ≡ false → l ≡ []
none_of [] is = refl
none_of (one ∷ l) is = cc is

lt_is : (a b : ℕ) → a < b → nat_lt a b ≡ true
lt_is a b lt = grind (arith, lt)

pub logs_same : (rest : State) (i : ℕ) (old new : WorldLog) → state_of rest new ≡ state_of rest old → log_at (states_of new.stripes) i ≡ log_at (states_of old.stripes) i
logs_same rest i old new is = ap (λ (s : State). log_of s i) is

pub retire_none : (i : ℕ) (old new : WorldLog) → i < length old.stripes.holders.items
    → is_enabled_in (state_of (start 0 0 0 0) old) (event.Retire i) ≡ false → Took (start 0 0 0 0) (event.Retire i) old new
    → (log_at (states_of new.stripes) i).unlinked ≡ []
retire_none i old new within off took =
    ap (λ (l : LogState). l.unlinked) (logs_same (start 0 0 0 0) i old new (not_done _ _ _ off took))
    ∙ none_of _ (false_right _ _ (lt_is _ _ within) off)

-- THE SAME STATE

pub same_waits : (rest : State) (old new : WorldLog) → state_of rest new ≡ state_of rest old → waiting_in new.stripes ≡ waiting_in old.stripes
same_waits rest old new is = ap (λ (s : State). waiting s.logs) is

pub same_full : (some : State) (i : ℕ) (old new : WorldLog) → state_of some new ≡ state_of some old → StaysFull i old new
same_full some i old new is rest full = ap (λ (s : State). is_full s.limit (log_of s i)) is ∙ full

pub full_both : (i : ℕ) (a b c : WorldLog) → StaysFull i a b → StaysFull i b c → StaysFull i a c
full_both i a b c one two rest full = two rest (one rest full)

-- DRAIN

drain_moved : (rest : State) (i : ℕ) (old new : WorldLog) → is_enabled_in (state_of rest old) (event.Drain i) ≡ true
    → Took rest (event.Drain i) old new → Moved i old new (with_drained (log_at (states_of old.stripes) i))
drain_moved rest i old new is took =
    moved_by rest i old new _ (after_drain (state_of rest old) i) refl refl (done_is _ _ _ is took)

drained_waits : (log : LogState) (retired : List Stamped) → log.retired ≡ retired → count_waiting (drained_from log retired) ≡ count_waiting log
drained_waits log [] is = refl
drained_waits log (one ∷ others) is =
    omega (arith, ap (λ (l : List Stamped). length l) is, length-append log.drained (one ∷ []))

drained_full : (limit : ℕ) (log : LogState) (retired : List Stamped) → log.retired ≡ retired → is_full limit (drained_from log retired) ≡ is_full limit log
drained_full limit log [] is = refl
drained_full limit log (one ∷ others) is =
    ap (λ (n : ℕ). nat_le limit n || nat_lt LAST_PAGE (next_page log)) (drain_counts log (one ∷ others) is)

drained_fewer : (clients : List ClientState) (log : LogState) (retired : List Stamped) → log.retired ≡ retired → may_drain clients retired ≡ true
    → length (drained_from log retired).retired < length log.retired
drained_fewer clients log [] is some = absurd (cc some)
drained_fewer clients log (one ∷ others) is some = omega (arith, ap (λ (l : List Stamped). length l) is)

drained_unlinked : (log : LogState) (retired : List Stamped) → (drained_from log retired).unlinked ≡ log.unlinked
drained_unlinked log [] = refl
drained_unlinked log (one ∷ others) = refl

pub record Drained (i : ℕ) (old new : WorldLog) : Type 0 where
  pub same : waiting_in new.stripes ≡ waiting_in old.stripes
  pub full : StaysFull i old new
  pub fewer : length (log_at (states_of new.stripes) i).retired < length (log_at (states_of old.stripes) i).retired
  pub unlinked : (log_at (states_of new.stripes) i).unlinked ≡ (log_at (states_of old.stripes) i).unlinked

pub drain_one : (rest : State) (i : ℕ) (old new : WorldLog) → IsWorldLog old → i < length old.stripes.holders.items
    → is_enabled_in (state_of rest old) (event.Drain i) ≡ true → Took rest (event.Drain i) old new → Drained i old new
drain_one rest i old new is within enabled took =
    let log : LogState = log_at (states_of old.stripes) i in
    let moved = drain_moved rest i old new enabled took in
    let below = log_within old i is within in
    record {
      same = omega (arith, waits_now i old new _ below moved, drained_waits log log.retired refl);
      full = full_now i old new _ below moved (λ limit. drained_full limit log log.retired refl);
      fewer = subst (λ (l : LogState). length l.retired < length log.retired) (sym (log_now i old new _ below moved))
          (drained_fewer rest.clients log log.retired refl (both _ _ enabled).1);
      unlinked = ap (λ (l : LogState). l.unlinked) (log_now i old new _ below moved) ∙ drained_unlinked log log.retired;
    }

pub drain_none : (rest : State) (i : ℕ) (old new : WorldLog) → i < length old.stripes.holders.items
    → is_enabled_in (state_of rest old) (event.Drain i) ≡ false → Took rest (event.Drain i) old new
    → may_drain rest.clients (log_at (states_of new.stripes) i).retired ≡ false
drain_none rest i old new within off took =
    ap (λ (l : LogState). may_drain rest.clients l.retired) (logs_same rest i old new (not_done _ _ _ off took))
    ∙ false_right _ _ (lt_is _ _ within) off

-- RELEASE

release_moved : (i : ℕ) (page : Bytes) (old new : WorldLog) → is_enabled_in (state_of (start 0 0 0 0) old) (event.Release i page) ≡ true
    → Took (start 0 0 0 0) (event.Release i page) old new → Moved i old new (with_released (log_at (states_of old.stripes) i))
release_moved i page old new is took =
    moved_by (start 0 0 0 0) i old new _ (after_release (state_of (start 0 0 0 0) old) i page) refl refl (done_is _ _ _ is took)

released_waits : (log : LogState) (drained : List Stamped) → log.drained ≡ drained → not (are_none drained) ≡ true
    → count_waiting (released_from log drained) + 1 ≡ count_waiting log
released_waits log [] is some = absurd (cc some)
released_waits log (one ∷ others) is some = omega (arith, ap (λ (l : List Stamped). length l) is)

released_fewer : (log : LogState) (drained : List Stamped) → log.drained ≡ drained → not (are_none drained) ≡ true
    → length (released_from log drained).drained < length log.drained
released_fewer log [] is some = absurd (cc some)
released_fewer log (one ∷ others) is some = omega (arith, ap (λ (l : List Stamped). length l) is)

released_others : (log : LogState) (drained : List Stamped)
    → ((released_from log drained).unlinked ≡ log.unlinked) × ((released_from log drained).retired ≡ log.retired)
released_others log [] = (refl, refl)
released_others log (one ∷ others) = (refl, refl)

pub record Released (i : ℕ) (old new : WorldLog) : Type 0 where
  pub less : waiting_in new.stripes < waiting_in old.stripes
  pub fewer : length (log_at (states_of new.stripes) i).drained < length (log_at (states_of old.stripes) i).drained
  pub unlinked : (log_at (states_of new.stripes) i).unlinked ≡ (log_at (states_of old.stripes) i).unlinked
  pub retired : (log_at (states_of new.stripes) i).retired ≡ (log_at (states_of old.stripes) i).retired

pub release_one : (i : ℕ) (page : Bytes) (old new : WorldLog) → IsWorldLog old → i < length old.stripes.holders.items
    → is_enabled_in (state_of (start 0 0 0 0) old) (event.Release i page) ≡ true → Took (start 0 0 0 0) (event.Release i page) old new → Released i old new
release_one i page old new is within enabled took =
    let log : LogState = log_at (states_of old.stripes) i in
    let moved = release_moved i page old new enabled took in
    let below = log_within old i is within in
    let now = log_now i old new _ below moved in
    record {
      less = omega (arith, waits_now i old new _ below moved, released_waits log log.drained refl (both _ _ enabled).1);
      fewer = subst (λ (l : LogState). length l.drained < length log.drained) (sym now) (released_fewer log log.drained refl (both _ _ enabled).1);
      unlinked = ap (λ (l : LogState). l.unlinked) now ∙ (released_others log log.drained).0;
      retired = ap (λ (l : LogState). l.retired) now ∙ (released_others log log.drained).1;
    }

pub release_none : (i : ℕ) (page : Bytes) (old new : WorldLog) → i < length old.stripes.holders.items
    → is_enabled_in (state_of (start 0 0 0 0) old) (event.Release i page) ≡ false → Took (start 0 0 0 0) (event.Release i page) old new
    → (log_at (states_of new.stripes) i).drained ≡ []
release_none i page old new within off took =
    ap (λ (l : LogState). l.drained) (logs_same (start 0 0 0 0) i old new (not_done _ _ _ off took))
    ∙ none_of _ (false_right _ _ (lt_is _ _ within) off)

-- ALL OF THEM

pub spent_is : (clients : List ClientState) (log : LogState) → log.drained ≡ [] → log.unlinked ≡ [] → are_held_back clients log.retired ≡ true
    → is_spent clients log ≡ true
spent_is clients log drained unlinked retired =
    λ j. are_none (drained j) && (are_none (unlinked j) && retired j)

-- the stamps of a stripe rise
pub stamps_at : (log : WorldLog) (i : ℕ) → IsWorldLog log → AreRising log.epoch (log_at (states_of log.stripes) i).retired
stamps_at log i is = by_lane (slice_get log.stripes.lanes.items i) refl
  where
    none_there : (lanes : List Lane) (i : ℕ) → slice_get lanes i ≡ None → log_at (map lane_state lanes) i ≡ new_log
    none_there [] i at = refl
    none_there (lane ∷ lanes) zero at = cc at
    none_there (lane ∷ lanes) (suc i) at = none_there lanes i at

    by_lane : (o : Option Lane) → slice_get log.stripes.lanes.items i ≡ o → AreRising log.epoch (log_at (states_of log.stripes) i).retired
    by_lane None at = subst (λ (l : LogState). AreRising log.epoch l.retired) (sym (none_there log.stripes.lanes.items i at)) tt
    by_lane (Some lane) at =
        subst (λ (l : LogState). AreRising log.epoch l.retired) (sym (log_there log.stripes.lanes.items i lane at)) (is.lanes i lane at).stamps

-- A PLAN LEAVES WHAT WAITS

same_counts : (lanes others : List Lane) → length others ≡ length lanes
    → ((i : ℕ) (lane other : Lane) → slice_get lanes i ≡ Some lane → slice_get others i ≡ Some other → count_waiting (lane_state other) ≡ count_waiting (lane_state lane))
    → waiting (map lane_state others) ≡ waiting (map lane_state lanes)
same_counts [] [] count each = refl
same_counts [] (other ∷ others) count each = absurd (omega (arith, count))
same_counts (lane ∷ lanes) [] count each = absurd (omega (arith, count))
same_counts (lane ∷ lanes) (other ∷ others) count each =
    ap₂ (λ (a b : ℕ). a + b) (each 0 lane other refl refl)
    (same_counts lanes others (omega (arith, count)) (λ i one two there at. each (suc i) one two there at))

pub waits_kept : (old new : Stripes) → KeepsOthers old new → waiting_in new ≡ waiting_in old
waits_kept old new keeps = same_counts old.lanes.items new.lanes.items keeps.count each
  where
    some_lane : {a b : Lane} → Option.Some a ≡ Some b → a ≡ b
    some_lane x = cc x

    by_holder : (i : ℕ) (lane other : Lane) → slice_get old.lanes.items i ≡ Some lane → slice_get new.lanes.items i ≡ Some other
        → (t : Bool) → holds new.holders.items new.acting i ≡ t → count_waiting (lane_state other) ≡ count_waiting (lane_state lane)
    by_holder i lane other there at true held =
        ap (λ (b : Beside). count_waiting (log_state (lane_log other) b)) (beside_lent old new keeps i lane other there at held)
    by_holder i lane other there at false away =
        ap (λ (l : Lane). count_waiting (lane_state l))
        (sym (some_lane (sym there ∙ sym (keeps.others i ((λ j. holds ((sym keeps.holders j).items) (sym keeps.acting j) i) ∙ away)) ∙ at)))

    each : (i : ℕ) (lane other : Lane) → slice_get old.lanes.items i ≡ Some lane → slice_get new.lanes.items i ≡ Some other
        → count_waiting (lane_state other) ≡ count_waiting (lane_state lane)
    each i lane other there at = by_holder i lane other there at (holds new.holders.items new.acting i) refl

-- A STRIPE STAYS COLD

leaves_cold : (before : State) (i : ℕ) (o : Option ℕ) (after : State) → i < length before.logs → Leaves before i o after
    → (log_of before i).oldest < (log_of before i).first → (log_of after i).oldest < (log_of after i).first
leaves_cold before i (Some place) after below leaves cold =
    let now : log_of after i ≡ dropped (log_of before i) =
    ap (λ (s : State). log_of s i) leaves ∙ get_or-set_same before.logs i _ new_log below in
    subst (λ (l : LogState). l.oldest < l.first) (sym now) (omega (arith, cold))
leaves_cold before i None after below leaves cold =
    let now : log_of after i ≡ dropped (with_receipt (log_of before i) (log_of before i).first (length before.places)) =
    ap (λ (s : State). log_of s i) leaves.1 ∙ get_or-set_same before.logs i _ new_log below in
    subst (λ (l : LogState). l.oldest < l.first) (sym now) (omega (arith, cold))

leaves_below : (before : State) (i : ℕ) (o : Option ℕ) (after : State) → Leaves before i o after → length after.logs ≡ length before.logs
leaves_below before i (Some place) after leaves = ap (λ (s : State). length s.logs) leaves ∙ length-set before.logs i _
leaves_below before i None after leaves = ap (λ (s : State). length s.logs) leaves.1 ∙ length-set before.logs i _

retired_pages : (log : LogState) (unlinked : List ℕ) (epoch : ℕ)
    → ((retired_from log unlinked epoch).oldest ≡ log.oldest) × ((retired_from log unlinked epoch).first ≡ log.first)
retired_pages log [] epoch = (refl, refl)
retired_pages log (one ∷ others) epoch = (refl, refl)

drained_pages : (log : LogState) (retired : List Stamped) → ((drained_from log retired).oldest ≡ log.oldest) × ((drained_from log retired).first ≡ log.first)
drained_pages log [] = (refl, refl)
drained_pages log (one ∷ others) = (refl, refl)

released_pages : (log : LogState) (drained : List Stamped) → ((released_from log drained).oldest ≡ log.oldest) × ((released_from log drained).first ≡ log.first)
released_pages log [] = (refl, refl)
released_pages log (one ∷ others) = (refl, refl)

set_cold : (logs : List LogState) (i : ℕ) (log : LogState) → i < length logs → (log.oldest ≡ (log_at logs i).oldest) × (log.first ≡ (log_at logs i).first)
    → (log_at logs i).oldest < (log_at logs i).first → (log_at (set logs i log) i).oldest < (log_at (set logs i log) i).first
set_cold logs i log below pages cold =
    subst (λ (l : LogState). l.oldest < l.first) (sym (get_or-set_same logs i log new_log below)) (omega (arith, cold, pages.0, pages.1))

frees_cold : (before : State) (i : ℕ) (after : State) → i < length before.logs → Frees before i after
    → (log_of before i).oldest < (log_of before i).first → (log_of after i).oldest < (log_of after i).first
frees_cold before i _ below (Retires some) cold = set_cold before.logs i _ below (retired_pages (log_of before i) (log_of before i).unlinked before.epoch) cold
frees_cold before i _ below (Drains some) cold = set_cold before.logs i _ below (drained_pages (log_of before i) (log_of before i).retired) cold
frees_cold before i _ below (Releases page some) cold = set_cold before.logs i _ below (released_pages (log_of before i) (log_of before i).drained) cold

frees_below : (before : State) (i : ℕ) (after : State) → Frees before i after → length after.logs ≡ length before.logs
frees_below before i _ (Retires some) = length-set before.logs i _
frees_below before i _ (Drains some) = length-set before.logs i _
frees_below before i _ (Releases page some) = length-set before.logs i _

step_cold : (before : State) (i : ℕ) (after : State) → i < length before.logs → Steps before i after
    → (log_of before i).oldest < (log_of before i).first → ((log_of after i).oldest < (log_of after i).first) × (length after.logs ≡ length before.logs)
step_cold before i after below (ByPage sheds) cold =
    (leaves_cold before i _ after below sheds.leaves cold, leaves_below before i _ after sheds.leaves)
step_cold before i after below (ByPlace within frees) cold = (frees_cold before i after below frees cold, frees_below before i after frees)

steps_cold : (count : ℕ) (before : State) (i : ℕ) (after : State) → i < length before.logs → StepsAll before (replicate count i) after
    → (log_of before i).oldest < (log_of before i).first → (log_of after i).oldest < (log_of after i).first
steps_cold zero before i after below steps cold = subst (λ (s : State). (log_of s i).oldest < (log_of s i).first) (sym steps) cold
steps_cold (suc count) before i after below steps cold =
    let first = step_cold before i steps.0 below steps.1 cold in
    steps_cold count steps.0 i after (subst (λ (n : ℕ). i < n) (sym first.1) below) steps.2 first.0

pub stays_cold : (rest : State) (count i : ℕ) (old new : WorldLog) → IsWorldLog old → i < length old.stripes.holders.items
    → StepsAll (state_of rest old) (replicate count i) (state_of rest new) → IsCold i old → IsCold i new
stays_cold rest count i old new is within steps cold =
    steps_cold count (state_of rest old) i (state_of rest new) (log_within old i is within) steps cold

-- THE CLEANER

-- room was made first
unlinks_after : (count : ℕ) (before : State) (i : ℕ) (mid after : State) → StepsAll before (replicate count i) mid → Unlinks mid i after → Unlinks before i after
unlinks_after count before i mid after steps (StopsFull more _ later full) =
    StopsFull (count + more) after
    (subst (λ (l : List ℕ). StepsAll before l after) (more_of count more i) (steps_both before (replicate count i) mid (replicate more i) after steps later)) full
unlinks_after count before i mid _ steps (Cleans more last place opened later cold there few) =
    Cleans (count + more) last place opened
    (subst (λ (l : List ℕ). StepsAll before l last) (more_of count more i) (steps_both before (replicate count i) mid (replicate more i) last steps later)) cold there few

spent_still : (clients : List ClientState) (old new : LogState) → SameWaiting old new → is_spent clients old ≡ true → is_spent clients new ≡ true
spent_still clients old new same is =
    (λ j. are_none (same.drained j) && (are_none (same.unlinked j) && are_held_back clients (same.retired j))) ∙ is

pub stepped_none : (stays : List (Option ℕ)) (old : WorldLog) → IsWorldLog old → HasStepped stays old old
stepped_none stays old is = record { log = is; steps = λ rest same. ([], refl) }

pub stepped_freed : (stays : List (Option ℕ)) (i : ℕ) (old mid new : WorldLog) → HasMetFull i old mid → HasFreed stays i mid new → HasStepped stays old new
stepped_freed stays i old mid new met freed = record {
  log = freed.log;
  steps = λ rest same. (
    replicate met.count i ++ replicate freed.count i,
    steps_both (state_of rest old) (replicate met.count i) (state_of rest mid) (replicate freed.count i) (state_of rest new) (met.steps rest) (freed.steps rest same),
  );
}

-- what the cleaner's step on a lane did, as one of the plain state
pub cleaned_is : (store : WorldLog) (i : ℕ) (lane new : Lane) (device : Shelves) (done : Bool) → IsWorldLog store → slice_get store.stripes.lanes.items i ≡ Some lane
    → IsNumbered (lane_log new) → (lane_log new).places ≡ (lane_log lane).places → SameValues store.stripes (with_both store i new device).stripes
    → DoesUnlink done (lane_log lane) (lane_beside lane) store.device (lane_log new) (lane_beside new) device → HasCleaned done i store (with_both store i new device)
cleaned_is store i lane new device true is there fit alike values does = λ rest.
    subst (Unlinks (state_of rest store) i) (values_state rest store (with_both store i new device) values)
    (cleaned (with_values rest store.stripes) store i lane new device is (reached store i lane is there) does)
cleaned_is store i lane new device false is there fit alike values does = record {
  count = (does.0).count;
  steps = λ rest.
      subst (StepsAll (state_of rest store) (replicate (does.0).count i)) (values_state rest store (with_both store i new device) values)
      (met_full (with_values rest store.stripes) store i lane new device is (reached store i lane is there) fit alike does).0;
  full = λ rest.
      subst (λ (s : State). HasNoPlace s i) (values_state rest store (with_both store i new device) values)
      (met_full (with_values rest store.stripes) store i lane new device is (reached store i lane is there) fit alike does).1;
  same = met_waits store i lane new device there does;
}

-- what was freed, and then it cleaned or not
pub cleans_again : (stays : List (Option ℕ)) (i : ℕ) (old mid freed new : WorldLog) (done : Bool) → HasMetFull i old mid → HasFreed stays i mid freed
    → ((rest : State) → stays_of rest ≡ stays → is_spent rest.clients (log_at (states_of freed.stripes) i) ≡ true)
    → HasCleaned done i freed new → (rest : State) → stays_of rest ≡ stays → Unlinks (state_of rest old) i (state_of rest new)
cleans_again stays i old mid freed new true met frees spent cleaned rest same =
    unlinks_after met.count (state_of rest old) i (state_of rest mid) (state_of rest new) (met.steps rest)
    (unlinks_after frees.count (state_of rest mid) i (state_of rest freed) (state_of rest new) (frees.steps rest same) (cleaned rest))
cleans_again stays i old mid freed new false met frees spent cleaned rest same =
    unlinks_after met.count (state_of rest old) i (state_of rest mid) (state_of rest new) (met.steps rest)
    (unlinks_after frees.count (state_of rest mid) i (state_of rest freed) (state_of rest new) (frees.steps rest same)
    (StopsFull cleaned.count (state_of rest new) (cleaned.steps rest)
    (record { no_place = cleaned.full rest; spent = spent_still rest.clients _ _ cleaned.same (spent rest same) })))

-- nothing was released: it is full
pub cleans_not : (stays : List (Option ℕ)) (i : ℕ) (old mid new : WorldLog) → HasMetFull i old mid → HasFreed stays i mid new
    → ((rest : State) → stays_of rest ≡ stays → is_spent rest.clients (log_at (states_of new.stripes) i) ≡ true) → StaysFull i mid new
    → (rest : State) → stays_of rest ≡ stays → Unlinks (state_of rest old) i (state_of rest new)
cleans_not stays i old mid new met frees spent full rest same =
    unlinks_after met.count (state_of rest old) i (state_of rest mid) (state_of rest new) (met.steps rest)
    (StopsFull frees.count (state_of rest new) (frees.steps rest same)
    (record { no_place = full rest (met.full rest); spent = spent rest same }))

-- IN THE WORDS OF THE CODE

pub on_false : {P Q : Type 0} (t : Bool) → (P → Q) → OnFalse t P → OnFalse t Q
on_false true turn is = tt
on_false false turn is = turn is

pub is_false : {P : Type 0} (t : Bool) → t ≡ false → OnFalse t P → P
is_false true same is = absurd (cc same)
is_false false same is = is

pub turn_true : {P : Type 0} (t : Bool) → (t ≡ true → P) → OnTrue t P
turn_true true turn = turn refl
turn_true false turn = tt

pub turn_false : {P : Type 0} (t : Bool) → (t ≡ false → P) → OnFalse t P
turn_false true turn = tt
turn_false false turn = turn refl

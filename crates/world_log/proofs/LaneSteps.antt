-- Steps on one stripe, as steps of the plain state of all.
use Rattle.std.proofs.Common.{◌≡◌, ◌⊎◌, ℕ, zero, suc, ◌+◌, ◌<◌, ◌≤◌, Bool, true, false, ◌&&◌, not, List, [], ◌∷◌, ◌++◌, length, length-append, map, get_or, set, Option, Some, None, is_some, is_none, nat_lt, refl, sym, ap, subst, ◌∙◌, inl, inr, arith, length-set}
use Rattle.std.specs.Prelude.{slice_get}
use Rattle.std.specs.Vec.{with_item}
use Rattle.std.proofs.lemmas.List.{map-set, map-append, length-map, set-get_or}
use Rattle.std.proofs.lemmas.Option.{slice_get_within, get_or_from_slice_get}
use Rattle.hybrid.specs.HybridLog.{HybridLog, Kept}
use Rattle.world_model.specs.declared.event.Event.{Event}
use Rattle.world_model.specs.declared.event.Event.TheVariants as event
use Rattle.world_model.specs.Logs as logs
use Rattle.world_model.specs.Logs.{LogState, Stamped, places_stamped, place_written, count_copied, places_kept, unreleased, with_written, written_to, with_retired, retired_from, with_drained, drained_from, oldest_sealed, is_full, with_copy, with_installed, dropped, place_at}
use Rattle.world_model.specs.States.{ClientState, State, log_at, log_of}
use Rattle.world_model.specs.Advancing.{When}
use Rattle.world_model.specs.Effects.{Works}
use Rattle.world_model.specs.Enabled.{is_enabled_in, has_none, has_written, has_copied, are_none, all_past, is_past, may_drain}
use Rattle.world_model.specs.States.{with_log}
use Rattle.world_log.specs.Beside.{Agrees, Beside, Does, DoesCopy, DoesDrain, DoesDrop, DoesInstall, DoesRetire, DoesWrite, IsAlike, IsFaithful, IsNumbered, IsWritten, beside_of, count_flushing, flights, flushing_of, has_copy, has_receipt, log_state, may_copy, place_of, place_stamped}
use Rattle.words.specs.Store.{Bytes}
use Rattle.world_log.specs.Places.{Receipt, Shelves, places_of, page_released, with_shelf}
use Rattle.shards.specs.Counted.{Counted}
use Rattle.shards.specs.Shards.{shard_counted, shard_log}
use Rattle.shards.specs.declared.shard.Shard.{Shard}
use Rattle.world_log.specs.Stripes.{lane_beside, lane_counted, lane_log, lane_state}
use Rattle.world_log.specs.WorldLogs.{AreRising, IsLane, IsWorldLog, IsOldest, state_beside, all_stays_past, stays_of}
use Rattle.world_log.proofs.Agreeing.{total}
use Rattle.world_log.specs.Given.{AreAllGiven, StaysGiven}
use Rattle.world_log.proofs.AllGiven.{all_stays, retire_given, drain_given, write_stays, write_given}
use Rattle.world_log.proofs.Rising.{drain_rises, retire_rises, rising_later, write_stamps}
use Rattle.world_log.specs.declared.queues.Queues.{Queues}
use Rattle.world_log.specs.declared.queues.Flushing.{Flushing}
use Rattle.world_log.specs.declared.queues.Flushing.TheVariants as has
use Rattle.world_log.specs.Types.{Lane}
use Rattle.world_log.specs.declared.logs.WorldLog.{WorldLog}

-- an event of a stripe did what it does where it is enabled, and else nothing, whatever the values
abbrev pub TookBeside : State → Event → WorldLog → WorldLog → Type 0
TookBeside rest e old new =
    When (is_enabled_in (state_beside rest old) e) (Works (state_beside rest old) e (state_beside rest new))
    (state_beside rest new ≡ state_beside rest old)

-- ONE LANE OF ALL

pub log_there : (lanes : List Lane) (i : ℕ) (lane : Lane) → slice_get lanes i ≡ Some lane → log_at (map lane_state lanes) i ≡ lane_state lane
log_there [] i lane is = absurd (cc is)
log_there (one ∷ lanes) zero lane is = ap lane_state (some_lane is)
  where
    some_lane : {a b : Lane} → Option.Some a ≡ Some b → a ≡ b
    some_lane is = cc is
log_there (one ∷ lanes) (suc i) lane is = log_there lanes i lane is

pub set_cases : (lanes : List Lane) (i j : ℕ) (new x : Lane) → slice_get (set lanes i new) j ≡ Some x → (x ≡ new) ⊎ (slice_get lanes j ≡ Some x)
set_cases [] i j new x is = inr is
set_cases (one ∷ lanes) zero zero new x is = inl (cc is)
set_cases (one ∷ lanes) zero (suc j) new x is = inr is
set_cases (one ∷ lanes) (suc i) zero new x is = inr is
set_cases (one ∷ lanes) (suc i) (suc j) new x is = set_cases lanes i j new x is

-- the log with another lane in a place, and another device
abbrev pub with_lane : WorldLog → ℕ → Lane → WorldLog
with_lane store i new = record store { stripes = record (store.stripes) { lanes = with_item store.stripes.lanes i new } }

abbrev pub with_both : WorldLog → ℕ → Lane → Shelves → WorldLog
with_both store i new device = record store { stripes = record (store.stripes) { lanes = with_item store.stripes.lanes i new }; device = device }

pub lane_of : (store : WorldLog) (i : ℕ) (lane : Lane) → IsWorldLog store → slice_get store.stripes.lanes.items i ≡ Some lane
    → IsLane store.device store.frames store.limit store.epoch lane
lane_of store i lane is there = is.lanes i lane there

-- a log with another lane
pub store_with : (store : WorldLog) (i : ℕ) (lane new : Lane) → IsWorldLog store → slice_get store.stripes.lanes.items i ≡ Some lane
    → IsAlike (lane_log lane) (lane_log new) → Agrees (lane_counted new) new.queues → IsNumbered (lane_log new)
    → AreAllGiven store.device (lane_log new) (lane_beside new) → AreRising store.epoch (lane_state new).retired → IsWorldLog (with_lane store i new)
store_with store i lane new is there alike agrees numbered given rising =
    let old : IsLane store.device store.frames store.limit store.epoch lane = is.lanes i lane there in
    let one : IsLane store.device store.frames store.limit store.epoch new =
    record {
      agrees = agrees;
      numbered = numbered;
      frames = alike.frames ∙ old.frames;
      places = alike.places ∙ old.places;
      stamps = rising;
      given = given;
    } in
    record {
      even = record {
        lanes = length-set store.stripes.lanes.items i new ∙ (is.even).lanes;
        some = (is.even).some;
        most = (is.even).most;
      };
      lanes = λ j x at. elim (set_cases store.stripes.lanes.items i j new x at) as (λ _. IsLane store.device store.frames store.limit store.epoch x) [
        | inl same ↦ subst (IsLane store.device store.frames store.limit store.epoch) (sym same) one
        | inr before ↦ is.lanes j x before
      ];
    }

-- a log whose device has changed, that gave all that the old one gave
pub store_device : (store : WorldLog) (device : Shelves) → StaysGiven store.device device → IsWorldLog store → IsWorldLog (record store { device = device })
store_device store device stays is = record {
  even = is.even;
  lanes = λ j x at.
      let one : IsLane store.device store.frames store.limit store.epoch x = is.lanes j x at in
      record {
        agrees = one.agrees;
        numbered = one.numbered;
        frames = one.frames;
        places = one.places;
        stamps = one.stamps;
        given = all_stays store.device device (lane_log x) (lane_beside x) stays one.given;
      };
}

-- a log at a later epoch
pub store_later : (store : WorldLog) (next : ℕ) → store.epoch ≤ next → IsWorldLog store → IsWorldLog (record store { epoch = next })
store_later store next later is = record {
  even = is.even;
  lanes = λ j x at.
      let one : IsLane store.device store.frames store.limit store.epoch x = is.lanes j x at in
      record {
        agrees = one.agrees;
        numbered = one.numbered;
        frames = one.frames;
        places = one.places;
        stamps = rising_later store.epoch next (lane_state x).retired later one.stamps;
        given = one.given;
      };
}

-- a log with another lane, whose own log is as it was
pub store_beside : (store : WorldLog) (i : ℕ) (lane new : Lane) → IsWorldLog store → slice_get store.stripes.lanes.items i ≡ Some lane
    → lane_log new ≡ lane_log lane → Agrees (lane_counted new) new.queues → AreAllGiven store.device (lane_log lane) (lane_beside new)
    → AreRising store.epoch (lane_state new).retired → IsWorldLog (with_lane store i new)
store_beside store i lane new is there same agrees given rising =
    let one : IsLane store.device store.frames store.limit store.epoch lane = is.lanes i lane there in
    store_with store i lane new is there
    (record { frames = ap (λ (q : HybridLog). q.resident.frames) same; places = ap (λ (q : HybridLog). q.places) same })
    agrees
    (subst IsNumbered (sym same) one.numbered)
    (subst (λ (q : HybridLog). AreAllGiven store.device q (lane_beside new)) (sym same) given)
    rising

pub logs_with : (store : WorldLog) (i : ℕ) (lane new : Lane) (log : LogState) → slice_get store.stripes.lanes.items i ≡ Some lane → lane_state new ≡ log
    → map lane_state (set store.stripes.lanes.items i new) ≡ set (map lane_state store.stripes.lanes.items) i log
logs_with store i lane new log there is =
    map-set lane_state store.stripes.lanes.items i new ∙ ap (set (map lane_state store.stripes.lanes.items) i) is

state_with : (rest : State) (store : WorldLog) (i : ℕ) (lane new : Lane) (log : LogState) → slice_get store.stripes.lanes.items i ≡ Some lane → lane_state new ≡ log
    → state_beside rest (with_lane store i new) ≡ with_log (state_beside rest store) i log
state_with rest store i lane new log there is =
    ap (λ (logs : List LogState). let s : State = record (state_beside rest store) { logs = logs } in s) (logs_with store i lane new log there is)

pub state_same : (rest : State) (store : WorldLog) (i : ℕ) (lane new : Lane) → slice_get store.stripes.lanes.items i ≡ Some lane → lane_state new ≡ lane_state lane
    → state_beside rest (with_lane store i new) ≡ state_beside rest store
state_same rest store i lane new there is =
    ap (λ (logs : List LogState). let s : State = record (state_beside rest store) { logs = logs } in s)
    (logs_with store i lane new (lane_state lane) there is
    ∙ ap (set (map lane_state store.stripes.lanes.items) i) (sym (log_there store.stripes.lanes.items i lane there))
    ∙ set-get_or (map lane_state store.stripes.lanes.items) i _)

pub when_true : (t : Bool) (P Q : Type 0) → t ≡ true → P → When t P Q
when_true true P Q is p = p
when_true false P Q is p = absurd (cc is)

pub when_false : (t : Bool) (P Q : Type 0) → t ≡ false → Q → When t P Q
when_false true P Q is q = absurd (cc is)
when_false false P Q is q = q

-- A STEP OF ONE LOG

-- the plain log made the step, which was enabled, or it was not and is the same
abbrev Makes : Bool → (may : Bool) → (LogState → LogState) → LogState → LogState → Type 0
Makes true may step log later = (may ≡ true) × (later ≡ step log)
Makes false may step log later = (may ≡ false) × (later ≡ log)

makes : (done may : Bool) (step : LogState → LogState) (old : HybridLog) (before : Beside) (new : HybridLog) (after : Beside)
    → Does done may step old before new after → Makes done may step (log_state old before) (log_state new after)
makes true may step old before new after does = (does.enabled, does.done)
makes false may step old before new after does =
    (does.enabled, ap (λ (p : HybridLog). log_state p after) does.log ∙ ap (log_state old) does.beside)

-- it says whether it was enabled
told : (done may : Bool) (step : LogState → LogState) (log later : LogState) → Makes done may step log later → done ≡ may
told true may step log later made = sym made.0
told false may step log later made = sym made.0

took : (rest : State) (e : Event) (store : WorldLog) (i : ℕ) (lane new : Lane) (done may : Bool) (step : LogState → LogState)
    → slice_get store.stripes.lanes.items i ≡ Some lane
    → is_enabled_in (state_beside rest store) e ≡ may
    → ((after : State) → after ≡ with_log (state_beside rest store) i (step (log_of (state_beside rest store) i)) → Works (state_beside rest store) e after)
    → Makes done may step (lane_state lane) (lane_state new) → TookBeside rest e store (with_lane store i new)
took rest e store i lane new true may step there enabled works made =
    when_true (is_enabled_in (state_beside rest store) e) _ _ (enabled ∙ made.0)
    (works (state_beside rest (with_lane store i new))
    (state_with rest store i lane new _ there (made.1 ∙ ap step (sym (log_there store.stripes.lanes.items i lane there)))))
took rest e store i lane new false may step there enabled works made =
    when_false (is_enabled_in (state_beside rest store) e) _ _ (enabled ∙ made.0) (state_same rest store i lane new there made.1)

-- a free stripe
pub record IsReached (store : WorldLog) (i : ℕ) (lane : Lane) : Type 0 where
  pub there : slice_get store.stripes.lanes.items i ≡ Some lane
  pub below : nat_lt i (length store.stripes.holders.items) ≡ true

pub IsFree : WorldLog → ℕ → Type 0
IsFree store i = is_none (get_or store.stripes.holders.items i None) ≡ true

below_is : (a b : ℕ) → a < b → nat_lt a b ≡ true
below_is a b lt = grind (arith, lt)

pub reached : (store : WorldLog) (i : ℕ) (lane : Lane) → IsWorldLog store → slice_get store.stripes.lanes.items i ≡ Some lane → IsReached store i lane
reached store i lane is there =
    let below : i < length store.stripes.lanes.items = slice_get_within store.stripes.lanes.items i lane there in
    record { there = there; below = below_is i (length store.stripes.holders.items) (omega (arith, below, (is.even).lanes)) }

none_held : (o : Option ℕ) → is_some o ≡ false → is_none o ≡ true
none_held None is = refl
none_held (Some c) is = cc is

pub free_is : (store : WorldLog) (i : ℕ) (holder : Option ℕ) → slice_get store.stripes.holders.items i ≡ Some holder → is_some holder ≡ false
    → is_none (get_or store.stripes.holders.items i None) ≡ true
free_is store i holder there none =
    ap is_none (get_or_from_slice_get store.stripes.holders.items i holder None there) ∙ none_held holder none

pub both_true : (a b m : Bool) → a ≡ true → b ≡ true → (a && (b && m)) ≡ m
both_true true true m _ _ = refl
both_true true false m _ is = absurd (cc is)
both_true false b m is _ = absurd (cc is)

-- COPY, INSTALL, DROP

abbrev copy_test : ℕ → ℕ → LogState → Bool
copy_test frames limit log = has_none log.flushing && (is_some (oldest_sealed frames log) && not (is_full limit log))

copy_enabled : (rest : State) (store : WorldLog) (i : ℕ) (lane : Lane) → IsWorldLog store → IsReached store i lane
    → is_none (get_or store.stripes.holders.items i None) ≡ true
    → is_enabled_in (state_beside rest store) (event.Copy i) ≡ may_copy (lane_log lane) (lane_beside lane)
copy_enabled rest store i lane is at free =
    let one : IsLane store.device store.frames store.limit store.epoch lane = is.lanes i lane at.there in
    both_true _ _ (copy_test store.frames store.limit (log_of (state_beside rest store) i)) at.below free
    ∙ ap (copy_test store.frames store.limit) (log_there store.stripes.lanes.items i lane at.there)
    ∙ ap (λ (f : ℕ). copy_test f store.limit (lane_state lane)) (sym one.frames)
    ∙ ap (λ (l : ℕ). copy_test (lane_log lane).resident.frames l (lane_state lane)) (sym one.places)

pub told_copy : (rest : State) (store : WorldLog) (i : ℕ) (lane new : Lane) (done : Bool) → IsWorldLog store → IsReached store i lane
    → is_none (get_or store.stripes.holders.items i None) ≡ true
    → DoesCopy done (lane_log lane) (lane_beside lane) (lane_log new) (lane_beside new) → done ≡ is_enabled_in (state_beside rest store) (event.Copy i)
told_copy rest store i lane new done is at free does =
    told done _ _ _ _ (makes done _ _ (lane_log lane) (lane_beside lane) (lane_log new) (lane_beside new) does)
    ∙ sym (copy_enabled rest store i lane is at free)

pub took_copy : (rest : State) (store : WorldLog) (i : ℕ) (lane new : Lane) (done : Bool) → IsWorldLog store → IsReached store i lane
    → is_none (get_or store.stripes.holders.items i None) ≡ true
    → DoesCopy done (lane_log lane) (lane_beside lane) (lane_log new) (lane_beside new) → TookBeside rest (event.Copy i) store (with_lane store i new)
took_copy rest store i lane new done is at free does =
    let one : IsLane store.device store.frames store.limit store.epoch lane = is.lanes i lane at.there in
    took rest (event.Copy i) store i lane new done (may_copy (lane_log lane) (lane_beside lane)) (with_copy (lane_log lane).resident.frames) at.there
    (copy_enabled rest store i lane is at free)
    (λ after same. same ∙ ap (λ (f : ℕ). with_log (state_beside rest store) i (with_copy f (log_of (state_beside rest store) i))) one.frames)
    (makes done _ _ (lane_log lane) (lane_beside lane) (lane_log new) (lane_beside new) does)

written_is : (f : Flushing) → has_written (flushing_of f) ≡ has_receipt f
written_is has.Nothing = refl
written_is (has.Copied number page) = refl
written_is (has.Wrote number page receipt) = refl

install_enabled : (rest : State) (store : WorldLog) (i : ℕ) (lane : Lane) → IsReached store i lane
    → is_none (get_or store.stripes.holders.items i None) ≡ true
    → is_enabled_in (state_beside rest store) (event.Install i) ≡ has_receipt lane.queues.flushing
install_enabled rest store i lane at free =
    both_true _ _ (has_written (log_of (state_beside rest store) i).flushing) at.below free
    ∙ ap (λ (log : LogState). has_written log.flushing) (log_there store.stripes.lanes.items i lane at.there)
    ∙ written_is lane.queues.flushing

pub told_install : (rest : State) (store : WorldLog) (i : ℕ) (lane new : Lane) (done : Bool) → IsReached store i lane
    → is_none (get_or store.stripes.holders.items i None) ≡ true
    → DoesInstall done (lane_log lane) (lane_beside lane) (lane_log new) (lane_beside new)
    → done ≡ is_enabled_in (state_beside rest store) (event.Install i)
told_install rest store i lane new done at free does =
    told done _ _ _ _ (makes done _ _ (lane_log lane) (lane_beside lane) (lane_log new) (lane_beside new) does)
    ∙ sym (install_enabled rest store i lane at free)

pub took_install : (rest : State) (store : WorldLog) (i : ℕ) (lane new : Lane) (done : Bool) → IsWorldLog store → IsReached store i lane
    → is_none (get_or store.stripes.holders.items i None) ≡ true
    → DoesInstall done (lane_log lane) (lane_beside lane) (lane_log new) (lane_beside new) → TookBeside rest (event.Install i) store (with_lane store i new)
took_install rest store i lane new done is at free does =
    let one : IsLane store.device store.frames store.limit store.epoch lane = is.lanes i lane at.there in
    took rest (event.Install i) store i lane new done (has_receipt lane.queues.flushing) (with_installed (lane_log lane).resident.frames) at.there
    (install_enabled rest store i lane at free)
    (λ after same. same ∙ ap (λ (f : ℕ). with_log (state_beside rest store) i (with_installed f (log_of (state_beside rest store) i))) one.frames)
    (makes done _ _ (lane_log lane) (lane_beside lane) (lane_log new) (lane_beside new) does)

drop_enabled : (rest : State) (store : WorldLog) (i : ℕ) (lane : Lane) → IsReached store i lane
    → is_none (get_or store.stripes.holders.items i None) ≡ true
    → is_enabled_in (state_beside rest store) (event.Drop i) ≡ is_some (place_at (lane_state lane) (lane_state lane).first)
drop_enabled rest store i lane at free =
    both_true _ _ (is_some (place_at (log_of (state_beside rest store) i) (log_of (state_beside rest store) i).first)) at.below free
    ∙ ap (λ (log : LogState). is_some (place_at log log.first)) (log_there store.stripes.lanes.items i lane at.there)

pub told_drop : (rest : State) (store : WorldLog) (i : ℕ) (lane new : Lane) (done : Bool) → IsReached store i lane
    → is_none (get_or store.stripes.holders.items i None) ≡ true
    → DoesDrop done (lane_log lane) (lane_beside lane) (lane_log new) (lane_beside new) → done ≡ is_enabled_in (state_beside rest store) (event.Drop i)
told_drop rest store i lane new done at free does =
    told done _ _ _ _ (makes done _ _ (lane_log lane) (lane_beside lane) (lane_log new) (lane_beside new) does)
    ∙ sym (drop_enabled rest store i lane at free)

pub took_drop : (rest : State) (store : WorldLog) (i : ℕ) (lane new : Lane) (done : Bool) → IsWorldLog store → IsReached store i lane
    → is_none (get_or store.stripes.holders.items i None) ≡ true
    → DoesDrop done (lane_log lane) (lane_beside lane) (lane_log new) (lane_beside new) → TookBeside rest (event.Drop i) store (with_lane store i new)
took_drop rest store i lane new done is at free does =
    took rest (event.Drop i) store i lane new done (is_some (place_at (lane_state lane) (lane_state lane).first)) dropped at.there
    (drop_enabled rest store i lane at free)
    (λ after same. same)
    (makes done _ _ (lane_log lane) (lane_beside lane) (lane_log new) (lane_beside new) does)

-- WHAT STANDS BESIDE THE LOG

stamped_length : (l : List Stamped) → length (places_stamped l) ≡ length l
stamped_length [] = refl
stamped_length (one ∷ l) = omega (arith, stamped_length l)

-- RETIRE

abbrev stamp_of : ℕ → ℕ → Stamped
stamp_of place epoch = record { place = place; epoch = epoch }

pub retired_log : (p : HybridLog) (before after : Beside) (epoch : ℕ) → DoesRetire true epoch before after
    → (not (are_none (log_state p before).unlinked) ≡ true) × (log_state p after ≡ with_retired (log_state p before) epoch)
retired_log p before after epoch does =
    let log : LogState = log_state p before in
    let unlinked : log.unlinked ≡ does.0.place ∷ map place_of does.1 = ap (map place_of) does.2 in
    let more : map place_stamped (before.retired ++ (does.0, epoch) ∷ []) ≡ log.retired ++ stamp_of does.0.place epoch ∷ [] =
    map-append place_stamped before.retired ((does.0, epoch) ∷ []) in (
      ap (λ (l : List ℕ). not (are_none l)) unlinked,
      ap (log_state p) does.3
          ∙ ap (λ (l : List Stamped). record log { unlinked = map place_of does.1; retired = l }) more
          ∙ sym (ap (λ (l : List ℕ). retired_from log l epoch) unlinked),
    )

pub retire_counts : (log : LogState) (unlinked : List ℕ) (epoch : ℕ) → log.unlinked ≡ unlinked → unreleased (retired_from log unlinked epoch) ≡ unreleased log
retire_counts log [] epoch is = refl
retire_counts log (place ∷ others) epoch is =
    let new : LogState = retired_from log (place ∷ others) epoch in
    omega (
      arith,
      total log,
      total new,
      ap (λ (l : List ℕ). length l) is,
      stamped_length log.retired,
      stamped_length new.retired,
      length-append log.retired (stamp_of place epoch ∷ []),
    )

false_right : (a : Bool) → (a && false) ≡ false
false_right true = refl
false_right false = refl

pub true_left : (a b : Bool) → a ≡ true → (a && b) ≡ b
true_left true b is = refl
true_left false b is = absurd (cc is)

-- the store where a place is retired
abbrev pub with_epoch : WorldLog → ℕ → Lane → ℕ → WorldLog
with_epoch store i new epoch = record store { stripes = record (store.stripes) { lanes = with_item store.stripes.lanes i new }; epoch = epoch }

retire_enabled : (rest : State) (store : WorldLog) (i : ℕ) (lane : Lane) → IsReached store i lane
    → is_enabled_in (state_beside rest store) (event.Retire i) ≡ not (are_none (lane_state lane).unlinked)
retire_enabled rest store i lane at =
    true_left _ (not (are_none (log_of (state_beside rest store) i).unlinked)) at.below
    ∙ ap (λ (l : LogState). not (are_none l.unlinked)) (log_there store.stripes.lanes.items i lane at.there)

pub told_retire : (rest : State) (store : WorldLog) (i : ℕ) (lane new : Lane) (done : Bool) → IsReached store i lane
    → DoesRetire done store.epoch (lane_beside lane) (lane_beside new) → done ≡ is_enabled_in (state_beside rest store) (event.Retire i)
told_retire rest store i lane new true at does =
    sym (retire_enabled rest store i lane at ∙ (retired_log (lane_log lane) (lane_beside lane) (lane_beside new) store.epoch does).0)
told_retire rest store i lane new false at does =
    sym (retire_enabled rest store i lane at ∙ ap (λ (l : List Kept). not (are_none (map place_of l))) does.0)

pub took_retire : (rest : State) (store : WorldLog) (i : ℕ) (lane new : Lane) (next : ℕ) → IsReached store i lane
    → next ≡ store.epoch + 1 → (lane_log new) ≡ (lane_log lane)
    → DoesRetire true store.epoch (lane_beside lane) (lane_beside new) → TookBeside rest (event.Retire i) store (with_epoch store i new next)
took_retire rest store i lane new next at up same does =
    let state : State = state_beside rest store in
    let there = log_there store.stripes.lanes.items i lane at.there in
    let done = retired_log (lane_log lane) (lane_beside lane) (lane_beside new) store.epoch does in
    let log : lane_state new ≡ with_retired (log_of state i) store.epoch =
    ap (λ (p : HybridLog). log_state p (lane_beside new)) same ∙ done.1 ∙ ap (λ (l : LogState). with_retired l store.epoch) (sym there) in
    let logs : map lane_state (set store.stripes.lanes.items i new) ≡ set state.logs i (with_retired (log_of state i) store.epoch) =
    logs_with store i lane new _ at.there log in
    when_true (is_enabled_in state (event.Retire i)) _ _
    (retire_enabled rest store i lane at ∙ done.0)
    (λ j. let s : State = record state { logs = logs j; epoch = up j } in s)

pub took_retire_not : (rest : State) (store : WorldLog) (i : ℕ) (lane new : Lane) → IsReached store i lane → (lane_log new) ≡ (lane_log lane)
    → DoesRetire false store.epoch (lane_beside lane) (lane_beside new) → TookBeside rest (event.Retire i) store (with_lane store i new)
took_retire_not rest store i lane new at same does =
    let state : State = state_beside rest store in
    when_false (is_enabled_in state (event.Retire i)) _ _
    (sym (told_retire rest store i lane new false at does))
    (state_same rest store i lane new at.there
    (ap (λ (p : HybridLog). log_state p (lane_beside new)) same ∙ ap (log_state (lane_log lane)) does.1))

-- a log where the epoch has changed, and a lane, whose own log is as it was
pub store_retired : (store : WorldLog) (i : ℕ) (lane new : Lane) (next : ℕ) → IsWorldLog store → slice_get store.stripes.lanes.items i ≡ Some lane
    → next ≡ store.epoch + 1 → lane_log new ≡ lane_log lane → Agrees (lane_counted new) new.queues
    → DoesRetire true store.epoch (lane_beside lane) (lane_beside new) → IsWorldLog (with_epoch store i new next)
store_retired store i lane new next is there up same agrees does =
    let one : IsLane store.device store.frames store.limit store.epoch lane = is.lanes i lane there in
    let later : store.epoch < next = omega (arith, up) in
    let kept : IsWorldLog (with_lane (record store { epoch = next }) i new) =
    store_beside (record store { epoch = next }) i lane new (store_later store next (omega (arith, up)) is) there same agrees
    (retire_given store.device (lane_log lane) (lane_beside lane) (lane_beside new) store.epoch does one.given)
    (retire_rises store.epoch next (lane_log lane) (lane_log new) (lane_beside lane) (lane_beside new) later does one.stamps) in
    record { even = kept.even; lanes = kept.lanes }

-- nothing of what stands beside it has changed
pub store_same : (store : WorldLog) (i : ℕ) (lane new : Lane) → IsWorldLog store → slice_get store.stripes.lanes.items i ≡ Some lane
    → lane_log new ≡ lane_log lane → Agrees (lane_counted new) new.queues → lane_beside new ≡ lane_beside lane → IsWorldLog (with_lane store i new)
store_same store i lane new is there same agrees beside_same =
    store_beside store i lane new is there same agrees
    (subst (AreAllGiven store.device (lane_log lane)) (sym beside_same) (is.lanes i lane there).given)
    (subst (λ (b : Beside). AreRising store.epoch (map place_stamped b.retired)) (sym beside_same) (is.lanes i lane there).stamps)

-- WRITE

places_more : (device : Shelves) (page : Bytes) → places_of (with_shelf device page) ≡ places_of device ++ None ∷ []
places_more device page = map-append page_released device.shelves (record { page = page; released = false } ∷ [])

pub written_log : (c : Counted) (before after : Queues) (old new : Shelves) (f : Flushing) → before.flushing ≡ f
    → IsWritten f old after.flushing new → after ≡ record before { flushing = after.flushing }
    → (has_copied (flushing_of before.flushing) ≡ true)
    × (log_state c.log (beside_of c after) ≡ with_written (log_state c.log (beside_of c before)) (length (places_of old)))
    × (places_of new ≡ places_of old ++ None ∷ [])
    × (IsFaithful c.log before.flushing → IsFaithful c.log after.flushing)
    × (flights after ≡ flights before)
written_log c before after old new has.Nothing same written is = absurd written
written_log c before after old new (has.Wrote number page receipt) same written is = absurd written
written_log c before after old new (has.Copied number page) same written is =
    let log : LogState = log_state c.log (beside_of c before) in
    let count : length (places_of old) ≡ length old.shelves = length-map old.shelves page_released in
    let left : flushing_of after.flushing ≡ logs.Wrote number (length old.shelves) = ap flushing_of written.0 in
    let right : written_to (flushing_of before.flushing) (length (places_of old)) ≡ logs.Wrote number (length old.shelves) =
    ap (λ (f : Flushing). written_to (flushing_of f) (length (places_of old))) same ∙ ap (logs.Wrote number) count in (
      ap (λ (f : Flushing). has_copied (flushing_of f)) same,
      ap (λ (q : Queues). log_state c.log (beside_of c q)) is
          ∙ ap (λ (f : logs.Flushing). let l : LogState = record log { flushing = f } in l) (left ∙ sym right),
      ap places_of written.1 ∙ places_more old page.value,
      (λ faithful.
          let old_one : IsFaithful c.log (has.Copied number page) = subst (IsFaithful c.log) same faithful in
          subst (IsFaithful c.log) (sym written.0) (old_one.0, old_one.1, refl)),
      ap flights is
          ∙ ap (λ (n : ℕ). n + length before.retired.items + length before.drained.items)
          (ap count_flushing written.0 ∙ sym (ap count_flushing same)),
    )

write_counts : (log : LogState) (place : ℕ) → has_copied log.flushing ≡ true → unreleased (with_written log place) ≡ unreleased log
write_counts log place is = by_flushing log.flushing refl is
  where
    by_flushing : (f : logs.Flushing) → log.flushing ≡ f → has_copied f ≡ true → unreleased (with_written log place) ≡ unreleased log
    by_flushing logs.Nothing same is = absurd (cc is)
    by_flushing (logs.Wrote number old) same is = absurd (cc is)
    by_flushing (logs.Copied number) same is =
        let new : LogState = with_written log place in
        omega (
          arith,
          total log,
          total new,
          ap (λ (f : logs.Flushing). length (place_written f)) same,
          ap count_copied same,
          ap (λ (f : logs.Flushing). length (place_written (written_to f place))) same,
          ap (λ (f : logs.Flushing). count_copied (written_to f place)) same,
        )

copy_is : (f : Flushing) → has_copied (flushing_of f) ≡ has_copy f
copy_is has.Nothing = refl
copy_is (has.Copied number page) = refl
copy_is (has.Wrote number page receipt) = refl

write_enabled : (rest : State) (store : WorldLog) (i : ℕ) (lane : Lane) → IsReached store i lane
    → is_enabled_in (state_beside rest store) (event.Write i) ≡ has_copied (lane_state lane).flushing
write_enabled rest store i lane at =
    true_left _ (has_copied (log_of (state_beside rest store) i).flushing) at.below
    ∙ ap (λ (l : LogState). has_copied l.flushing) (log_there store.stripes.lanes.items i lane at.there)

pub told_write : (rest : State) (store : WorldLog) (i : ℕ) (lane : Lane) (queues : Queues) (device : Shelves) (done : Bool) → IsReached store i lane
    → DoesWrite done lane.queues store.device queues device → done ≡ is_enabled_in (state_beside rest store) (event.Write i)
told_write rest store i lane queues device true at does =
    sym (write_enabled rest store i lane at
    ∙ (written_log (lane_counted lane) lane.queues queues store.device device lane.queues.flushing refl does.0 does.1).0)
told_write rest store i lane queues device false at does =
    sym (write_enabled rest store i lane at ∙ copy_is lane.queues.flushing ∙ does.0)

pub took_write : (rest : State) (store : WorldLog) (i : ℕ) (lane new : Lane) (device : Shelves) (done : Bool) → IsReached store i lane
    → new.shard ≡ lane.shard → DoesWrite done lane.queues store.device new.queues device
    → TookBeside rest (event.Write i) store (with_both store i new device)
took_write rest store i lane new device true at same does =
    let state : State = state_beside rest store in
    let there = log_there store.stripes.lanes.items i lane at.there in
    let done = written_log (lane_counted lane) lane.queues new.queues store.device device lane.queues.flushing refl does.0 does.1 in
    let log : lane_state new ≡ with_written (log_of state i) (length state.places) =
    ap (λ (s : Shard Receipt). log_state (shard_log s) (beside_of (shard_counted s) new.queues)) same ∙ done.1
    ∙ ap (λ (l : LogState). with_written l (length state.places)) (sym there) in
    let logs_now : map lane_state (set store.stripes.lanes.items i new) ≡ set state.logs i (with_written (log_of state i) (length state.places)) =
    logs_with store i lane new _ at.there log in
    when_true (is_enabled_in state (event.Write i)) _ _
    (write_enabled rest store i lane at ∙ done.0)
    (λ j. let s : State = record state { logs = logs_now j; places = done.2 j } in s)
took_write rest store i lane new device false at same does =
    let state : State = state_beside rest store in
    when_false (is_enabled_in state (event.Write i)) _ _
    (sym (told_write rest store i lane new.queues device false at does))
    (ap (λ (d : Shelves). let s : State = record (state_beside rest (with_lane store i new)) { places = places_of d } in s) does.2
    ∙ state_same rest store i lane new at.there
    (ap (λ (s : Shard Receipt). log_state (shard_log s) (beside_of (shard_counted s) new.queues)) same
    ∙ ap (λ (q : Queues). log_state (lane_log lane) (beside_of (lane_counted lane) q)) does.1))

-- what the world has beside a log has changed, and its shard has not
pub store_queues : (store : WorldLog) (i : ℕ) (lane : Lane) (queues : Queues) → IsWorldLog store → slice_get store.stripes.lanes.items i ≡ Some lane
    → Agrees (lane_counted lane) queues → AreAllGiven store.device (lane_log lane) (beside_of (lane_counted lane) queues)
    → AreRising store.epoch (map place_stamped queues.retired.items) → IsWorldLog (with_lane store i (record { shard = lane.shard; queues = queues }))
store_queues store i lane queues is there agrees given rising =
    store_beside store i lane (record { shard = lane.shard; queues = queues }) is there refl agrees given rising

pub store_written : (store : WorldLog) (i : ℕ) (lane : Lane) (queues : Queues) (device : Shelves) (done : Bool) → IsWorldLog store
    → slice_get store.stripes.lanes.items i ≡ Some lane → DoesWrite done lane.queues store.device queues device
    → IsWorldLog (with_both store i (record { shard = lane.shard; queues = queues }) device)
store_written store i lane queues device done is there does =
    let one : IsLane store.device store.frames store.limit store.epoch lane = is.lanes i lane there in
    store_queues (record store { device = device }) i lane queues
    (store_device store device (write_stays done lane.queues store.device queues device does) is) there (agrees done does)
    (write_given done (lane_counted lane) lane.queues store.device queues device does one.given)
    (subst (λ (l : List (Receipt × ℕ)). AreRising store.epoch (map place_stamped l)) (sym (write_stamps done lane.queues store.device queues device does)) one.stamps)
  where
    agrees : (t : Bool) → DoesWrite t lane.queues store.device queues device → Agrees (lane_counted lane) queues
    agrees true does =
        let before : Agrees (lane_counted lane) lane.queues = (is.lanes i lane there).agrees in
        let done = written_log (lane_counted lane) lane.queues queues store.device device lane.queues.flushing refl does.0 does.1 in
        record {
          counted = before.counted
              ∙ sym (ap unreleased done.1 ∙ write_counts (lane_state lane) (length (places_of store.device)) done.0);
          in_flight = before.in_flight ∙ sym done.4;
          retired = before.retired;
          drained = before.drained;
          faithful = done.3 before.faithful;
        }
    agrees false does = subst (Agrees (lane_counted lane)) (sym does.1) (is.lanes i lane there).agrees

-- DRAIN

pub drained_log : (c : Counted) (before after : Queues) → DoesDrain true before after
    → log_state c.log (beside_of c after) ≡ with_drained (log_state c.log (beside_of c before))
drained_log c before after does =
    let log : LogState = log_state c.log (beside_of c before) in
    let retired : log.retired ≡ place_stamped does.0 ∷ map place_stamped does.1 = ap (map place_stamped) does.2 in
    let fewer : map place_stamped after.retired.items ≡ map place_stamped does.1 = ap (map place_stamped) does.3 in
    let more : map place_stamped after.drained.items ≡ log.drained ++ place_stamped does.0 ∷ [] =
    ap (map place_stamped) does.4 ∙ map-append place_stamped before.drained.items (does.0 ∷ []) in
    let flushing : flushing_of after.flushing ≡ log.flushing = ap flushing_of does.5 in
    (λ j. record log { flushing = flushing j; retired = fewer j; drained = more j })
    ∙ sym (ap (λ (l : List Stamped). drained_from log l) retired)

-- as many are in flight
drain_flights : (before after : Queues) → DoesDrain true before after → flights after ≡ flights before
drain_flights before after does =
    omega (
      arith,
      ap count_flushing does.5,
      ap (λ (l : List (Receipt × ℕ)). length l) does.2,
      ap (λ (l : List (Receipt × ℕ)). length l) does.3,
      ap (λ (l : List (Receipt × ℕ)). length l) does.4,
      length-append before.drained.items (does.0 ∷ []),
    )

pub drain_counts : (log : LogState) (retired : List Stamped) → log.retired ≡ retired → unreleased (drained_from log retired) ≡ unreleased log
drain_counts log [] is = refl
drain_counts log (one ∷ others) is =
    let new : LogState = drained_from log (one ∷ others) in
    omega (
      arith,
      total log,
      total new,
      ap (λ (l : List Stamped). length l) is,
      stamped_length log.retired,
      stamped_length log.drained,
      stamped_length new.retired,
      stamped_length new.drained,
      length-append log.drained (one ∷ []),
    )

past_same : (clients : List ClientState) (e : ℕ) → all_past clients e ≡ all_stays_past (map (λ (peer : ClientState). peer.stay) clients) e
past_same [] e = refl
past_same (one ∷ clients) e = ap (λ (t : Bool). is_past e one.stay && t) (past_same clients e)

-- whether the oldest of these may be drained
may_some : (clients : List ClientState) (retired : List Stamped) (one : Stamped) (others : List Stamped) → retired ≡ one ∷ others
    → may_drain clients retired ≡ all_past clients one.epoch
may_some clients retired one others is = ap (may_drain clients) is

drain_enabled : (rest : State) (store : WorldLog) (i : ℕ) (lane : Lane) → IsReached store i lane
    → is_enabled_in (state_beside rest store) (event.Drain i) ≡ may_drain rest.clients (lane_state lane).retired
drain_enabled rest store i lane at =
    true_left _ (may_drain rest.clients (log_of (state_beside rest store) i).retired) at.below
    ∙ ap (λ (l : LogState). may_drain rest.clients l.retired) (log_there store.stripes.lanes.items i lane at.there)

-- it is enabled where there is an oldest one that is past all stays
drain_past : (rest : State) (store : WorldLog) (i : ℕ) (lane : Lane) (stays : List (Option ℕ)) (one : Receipt × ℕ) (others : List (Receipt × ℕ))
    → IsReached store i lane → stays_of rest ≡ stays → lane.queues.retired.items ≡ one ∷ others
    → is_enabled_in (state_beside rest store) (event.Drain i) ≡ all_stays_past stays one.1
drain_past rest store i lane stays one others at same_stays is =
    drain_enabled rest store i lane at
    ∙ may_some rest.clients _ (place_stamped one) (map place_stamped others) (ap (map place_stamped) is)
    ∙ past_same rest.clients one.1 ∙ ap (λ (l : List (Option ℕ)). all_stays_past l one.1) same_stays

pub told_drain_none : (rest : State) (store : WorldLog) (i : ℕ) (lane : Lane) → IsReached store i lane → lane.queues.retired.items ≡ []
    → false ≡ is_enabled_in (state_beside rest store) (event.Drain i)
told_drain_none rest store i lane at none =
    sym (drain_enabled rest store i lane at ∙ ap (λ (l : List (Receipt × ℕ)). may_drain rest.clients (map place_stamped l)) none)

pub told_drain_held : (rest : State) (store : WorldLog) (i : ℕ) (lane : Lane) (stays : List (Option ℕ)) (epoch : ℕ) → IsReached store i lane
    → stays_of rest ≡ stays → IsOldest lane.queues epoch → all_stays_past stays epoch ≡ false
    → false ≡ is_enabled_in (state_beside rest store) (event.Drain i)
told_drain_held rest store i lane stays epoch at same_stays oldest held =
    sym (drain_past rest store i lane stays oldest.one oldest.others at same_stays oldest.items
    ∙ ap (all_stays_past stays) oldest.stamp ∙ held)

pub told_drain_by : (rest : State) (store : WorldLog) (i : ℕ) (lane : Lane) (queues : Queues) (stays : List (Option ℕ)) (epoch : ℕ) (done : Bool)
    → IsReached store i lane → stays_of rest ≡ stays → IsOldest lane.queues epoch → all_stays_past stays epoch ≡ true
    → DoesDrain done lane.queues queues → done ≡ is_enabled_in (state_beside rest store) (event.Drain i)
told_drain_by rest store i lane queues stays epoch false at same_stays oldest past does = absurd (never (sym oldest.items ∙ does.0))
  where
    never : {one : Receipt × ℕ} {others : List (Receipt × ℕ)} → one ∷ others ≡ [] → ⊥
    never is = cc is
told_drain_by rest store i lane queues stays epoch true at same_stays oldest past does =
    sym (drain_past rest store i lane stays oldest.one oldest.others at same_stays oldest.items
    ∙ ap (all_stays_past stays) oldest.stamp ∙ past)

pub took_drain : (rest : State) (store : WorldLog) (i : ℕ) (lane new : Lane) (stays : List (Option ℕ)) → IsReached store i lane
    → stays_of rest ≡ stays → new.shard ≡ lane.shard → (does : DoesDrain true lane.queues new.queues)
    → all_stays_past stays does.0.1 ≡ true → TookBeside rest (event.Drain i) store (with_lane store i new)
took_drain rest store i lane new stays at same_stays same does past =
    let state : State = state_beside rest store in
    let there = log_there store.stripes.lanes.items i lane at.there in
    when_true (is_enabled_in state (event.Drain i)) _ _
    (drain_past rest store i lane stays does.0 does.1 at same_stays does.2 ∙ past)
    (state_with rest store i lane new _ at.there
    (ap (λ (s : Shard Receipt). log_state (shard_log s) (beside_of (shard_counted s) new.queues)) same
    ∙ drained_log (lane_counted lane) lane.queues new.queues does ∙ ap with_drained (sym there)))

-- where there is none, or a stay holds it back, nothing happens
pub took_drain_none : (rest : State) (store : WorldLog) (i : ℕ) (lane : Lane) → IsReached store i lane → lane.queues.retired.items ≡ []
    → TookBeside rest (event.Drain i) store store
took_drain_none rest store i lane at none =
    when_false (is_enabled_in (state_beside rest store) (event.Drain i)) _ _ (sym (told_drain_none rest store i lane at none)) refl

pub took_drain_held : (rest : State) (store : WorldLog) (i : ℕ) (lane : Lane) (stays : List (Option ℕ)) (one : Receipt × ℕ) (others : List (Receipt × ℕ))
    → IsReached store i lane → stays_of rest ≡ stays → lane.queues.retired.items ≡ one ∷ others → all_stays_past stays one.1 ≡ false
    → TookBeside rest (event.Drain i) store store
took_drain_held rest store i lane stays one others at same_stays is held =
    when_false (is_enabled_in (state_beside rest store) (event.Drain i)) _ _
    (drain_past rest store i lane stays one others at same_stays is ∙ held) refl

pub store_drained : (store : WorldLog) (i : ℕ) (lane : Lane) (queues : Queues) → IsWorldLog store → slice_get store.stripes.lanes.items i ≡ Some lane
    → DoesDrain true lane.queues queues → IsWorldLog (with_lane store i (record { shard = lane.shard; queues = queues }))
store_drained store i lane queues is there does =
    let one : IsLane store.device store.frames store.limit store.epoch lane = is.lanes i lane there in
    let before : Agrees (lane_counted lane) lane.queues = one.agrees in
    store_queues store i lane queues is there
    (record {
      counted = before.counted ∙ sym (ap unreleased (drained_log (lane_counted lane) lane.queues queues does) ∙ drain_counts (lane_state lane) _ refl);
      in_flight = before.in_flight ∙ sym (drain_flights lane.queues queues does);
      retired = before.retired;
      drained = before.drained;
      faithful = subst (IsFaithful (lane_log lane)) (sym does.5) before.faithful;
    })
    (drain_given store.device (lane_counted lane) lane.queues queues does one.given)
    (drain_rises store.epoch lane.queues queues does one.stamps)

-- the oldest one is past all stays
pub took_drain_by : (rest : State) (store : WorldLog) (i : ℕ) (lane new : Lane) (stays : List (Option ℕ)) (epoch : ℕ) (done : Bool) → IsReached store i lane
    → stays_of rest ≡ stays → new.shard ≡ lane.shard → IsOldest lane.queues epoch → all_stays_past stays epoch ≡ true
    → DoesDrain done lane.queues new.queues → TookBeside rest (event.Drain i) store (with_lane store i new)
took_drain_by rest store i lane new stays epoch false at same_stays same oldest past does = absurd (never (sym oldest.items ∙ does.0))
  where
    never : {one : Receipt × ℕ} {others : List (Receipt × ℕ)} → one ∷ others ≡ [] → ⊥
    never is = cc is
took_drain_by rest store i lane new stays epoch true at same_stays same oldest past does =
    took_drain rest store i lane new stays at same_stays same does
    (ap (λ (l : List (Receipt × ℕ)). all_stays_past stays (stamp l)) (sym does.2 ∙ oldest.items) ∙ ap (all_stays_past stays) oldest.stamp ∙ past)
  where
    stamp : List (Receipt × ℕ) → ℕ
    stamp [] = 0
    stamp (one ∷ others) = one.1

pub store_drained_by : (store : WorldLog) (i : ℕ) (lane : Lane) (queues : Queues) (epoch : ℕ) (done : Bool) → IsWorldLog store
    → slice_get store.stripes.lanes.items i ≡ Some lane → IsOldest lane.queues epoch
    → DoesDrain done lane.queues queues → IsWorldLog (with_lane store i (record { shard = lane.shard; queues = queues }))
store_drained_by store i lane queues epoch false is there oldest does = absurd (never (sym oldest.items ∙ does.0))
  where
    never : {one : Receipt × ℕ} {others : List (Receipt × ℕ)} → one ∷ others ≡ [] → ⊥
    never is = cc is
store_drained_by store i lane queues epoch true is there oldest does = store_drained store i lane queues is there does

pub same_lane : (store : WorldLog) (i : ℕ) (one other : Lane) → slice_get store.stripes.lanes.items i ≡ Some one → slice_get store.stripes.lanes.items i ≡ Some other → one ≡ other
same_lane store i one other here there = some_lane (sym here ∙ there)
  where
    some_lane : {a b : Lane} → Option.Some a ≡ Some b → a ≡ b
    some_lane is = cc is

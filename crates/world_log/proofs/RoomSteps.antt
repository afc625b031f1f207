-- Room made in one stripe, and the cleaner's step, as steps of the plain state of all.
use Rattle.std.proofs.Common.{◌≡◌, ℕ, zero, suc, ◌<◌, ◌≤◌, Bool, true, false, ◌||◌, not, List, [], ◌∷◌, ◌++◌, length, replicate, map, get_or, set, Option, Some, None, is_none, nat_lt, nat_le, refl, sym, ap, subst, ◌∙◌, inl, inr, arith}
use Rattle.std.specs.Prelude.{slice_get}
use Rattle.std.proofs.lemmas.List.{set-set, map-set, set-get_or, get_or-set_same, length-map}
use Rattle.std.proofs.lemmas.Option.{slice_get_within}
use Rattle.std.proofs.lemmas.Bool.{ltb-true}
use Rattle.words.specs.Store.{Bytes}
use Rattle.hybrid.specs.HybridLog.{HybridLog}
use Rattle.hybrid.specs.Reserving.{IsFull}
use Rattle.world_model.specs.declared.event.Event.TheVariants as event
use Rattle.world_model.specs.Logs.{LogState, Stamped, LAST_PAGE, new_log, next_page, place_at, unreleased, is_full, first_mutable, dropped, with_receipt, with_opened, without_oldest, with_released, released_from}
use Rattle.world_model.specs.Releasing.{places_released}
use Rattle.world_model.specs.States.{State, log_at, log_of, stripe_count}
use Rattle.world_model.specs.Enabled.{are_none, is_enabled_in}
use Rattle.world_model.specs.Effects.{Works, Unlinks}
use Rattle.world_model.specs.Rooms.{Leaves, Sheds, Steps, ByPage, StepsAll, HasNoPlace}
use Rattle.world_model.specs.States.{with_log}
use Rattle.world_model.specs.Effects as effects
use Rattle.world_log.specs.Places.{Receipt, Shelves, page_released, places_of}
use Rattle.world_model.specs.Places.{Each}
use Rattle.world_log.specs.Given.{IsGiven}
use Rattle.world_log.specs.Beside.{AreGiven, Beside, DoesRelease, IsNumbered, log_state, place_stamped}
use Rattle.world_log.specs.MakingRoom.{LeavesBy, ShedsOne, ShedsMany, HasMadeRoom}
use Rattle.world_log.specs.Cleaning.{AreServed, HasUnlinked, DoesUnlink}
use Rattle.world_log.specs.Freeing.{SameWaiting}
use Rattle.world_log.specs.Stripes.{lane_beside, lane_log, lane_state, states_of}
use Rattle.world_log.specs.WorldLogs.{IsLane, IsWorldLog, NoneReleasedAt, Took, state_beside, state_of}
use Rattle.world_log.specs.Types.{Lane}
use Rattle.world_log.specs.declared.logs.WorldLog.{WorldLog}
use Rattle.world_log.proofs.GivenSteps.{served_kept}
use Rattle.world_log.proofs.Agreeing.{pages_same}
use Rattle.world_log.proofs.LaneSteps.{lane_of, TookBeside, with_both, IsReached, log_there, logs_with, state_same, with_lane, when_true, when_false, both_true, true_left}

-- the state with another log in a place, and other places
abbrev placed : State → ℕ → LogState → List (Option Bytes) → State
placed state i log places = record state { logs = set state.logs i log; places = places }

here : (state : State) (i : ℕ) (log : LogState) (places : List (Option Bytes)) → i < length state.logs → log_of (placed state i log places) i ≡ log
here state i log places below = get_or-set_same state.logs i log new_log below

leaves_lift : (state : State) (i : ℕ) (mid later : LogState) (between more : List (Option Bytes)) (o : Option ℕ) → i < length state.logs
    → LeavesBy state.frames state.limit mid between o later more → Leaves (placed state i mid between) i o (placed state i later more)
leaves_lift state i mid later between more (Some place) below leaves =
    let b : State = placed state i mid between in
    let log : set state.logs i later ≡ set b.logs i (dropped (log_of b i)) =
    sym (set-set state.logs i mid (dropped (log_of b i))
    ∙ ap (set state.logs i) (ap dropped (here state i mid between below) ∙ sym leaves.0)) in
    λ j. let s : State = record state { logs = log j; places = leaves.1 j } in s
leaves_lift state i mid later between more None below leaves =
    let b : State = placed state i mid between in
    let step : LogState → LogState = λ l. dropped (with_receipt l l.first (length between)) in
    let log : set state.logs i later ≡ set b.logs i (step (log_of b i)) =
    sym (set-set state.logs i mid (step (log_of b i))
    ∙ ap (set state.logs i) (ap step (here state i mid between below) ∙ sym leaves.1)) in (
      ap (is_full state.limit) (here state i mid between below) ∙ leaves.0,
      λ j. let s : State = record state { logs = log j; places = leaves.2 j } in s,
    )

shed_lift : (state : State) (i : ℕ) (mid later : LogState) (between more : List (Option Bytes)) → i < length state.logs → i < stripe_count state
    → ShedsOne state.frames state.limit mid between later more → Sheds (placed state i mid between) i (placed state i later more)
shed_lift state i mid later between more below within one =
    let b : State = placed state i mid between in
    let is : log_of b i ≡ mid = here state i mid between below in
    record {
      within = within;
      read_only = ap (λ (l : LogState). nat_lt l.first (first_mutable state.frames l)) is ∙ one.read_only;
      leaves =
          subst (λ (l : LogState). Leaves b i (place_at l l.first) (placed state i later more)) (sym is)
          (leaves_lift state i mid later between more (place_at mid mid.first) below one.leaves);
    }

pub steps_last : (a : State) (stripes : List ℕ) (b : State) (i : ℕ) (c : State) → StepsAll a stripes b → Steps b i c → StepsAll a (stripes ++ i ∷ []) c
steps_last a [] b i c steps one = (c, subst (λ (s : State). Steps s i c) steps one, refl)
steps_last a (j ∷ stripes) b i c steps one = (steps.0, steps.1, steps_last steps.0 stripes b i c steps.2 one)

pub one_more : (n i : ℕ) → replicate n i ++ i ∷ [] ≡ i ∷ replicate n i
one_more zero i = refl
one_more (suc n) i = ap (λ (l : List ℕ). i ∷ l) (one_more n i)

-- pages that leave one stripe are pages that leave the stripe of all
pub sheds_lift : (state : State) (i n : ℕ) (later : LogState) (more : List (Option Bytes)) → i < length state.logs → i < stripe_count state
    → ShedsMany state.frames state.limit n (log_of state i) state.places later more → StepsAll state (replicate n i) (placed state i later more)
sheds_lift state i zero later more below within sheds =
    let log : set state.logs i later ≡ state.logs = ap (set state.logs i) sheds.0 ∙ set-get_or state.logs i new_log in
    λ j. let s : State = record state { logs = log j; places = sheds.1 j } in s
sheds_lift state i (suc n) later more below within sheds =
    subst (λ (stripes : List ℕ). StepsAll state stripes (placed state i later more)) (one_more n i)
    (steps_last state (replicate n i) (placed state i sheds.0 sheds.1) i (placed state i later more)
    (sheds_lift state i n sheds.0 sheds.1 below within sheds.2) (ByPage (shed_lift state i sheds.0 later sheds.1 more below within sheds.3)))

-- THE CLEANER

pub full_is : (p : HybridLog) (beside : Beside) → IsNumbered p → p.unreleased ≡ unreleased (log_state p beside) → IsFull p
    → is_full p.places (log_state p beside) ≡ true
full_is p beside numbered counted (inl all) =
    ap (λ (t : Bool). t || nat_lt LAST_PAGE (next_page (log_state p beside))) (le_is p.places (unreleased (log_state p beside)) (omega (arith, all, counted)))
  where
    le_is : (a b : ℕ) → a ≤ b → nat_le a b ≡ true
    le_is a b le = grind (arith, le)
full_is p beside numbered counted (inr last) =
    or_true (nat_le p.places (unreleased (log_state p beside)))
    (nat_lt LAST_PAGE (next_page (log_state p beside)))
    (lt_is LAST_PAGE (next_page (log_state p beside)) (subst (λ (n : ℕ). LAST_PAGE < n) (sym (pages_same p beside numbered)) last))
  where
    lt_is : (a b : ℕ) → a < b → nat_lt a b ≡ true
    lt_is a b lt = grind (arith, lt)

    or_true : (a b : Bool) → b ≡ true → (a || b) ≡ true
    or_true true b is = refl
    or_true false b is = is

-- room made in a lane, as of the state
made_lift : (rest : State) (store : WorldLog) (i : ℕ) (lane : Lane) (mid : HybridLog) (device : Shelves) → IsWorldLog store → IsReached store i lane
    → (made : HasMadeRoom (lane_log lane) store.device mid device (lane_beside lane))
    → StepsAll (state_beside rest store) (replicate made.count i) (placed (state_beside rest store) i (log_state mid (lane_beside lane)) (places_of device))
made_lift rest store i lane mid device is at made =
    let state : State = state_beside rest store in
    let one : IsLane store.device store.frames store.limit store.epoch lane = is.lanes i lane at.there in
    let within : i < length store.stripes.lanes.items = slice_get_within store.stripes.lanes.items i lane at.there in
    let below : i < length state.logs = omega (arith, within, length-map store.stripes.lanes.items lane_state) in
    let frames = subst (λ (f : ℕ). ShedsMany f (lane_log lane).places made.count (lane_state lane) (places_of store.device) (log_state mid (lane_beside lane)) (places_of device))
    one.frames made.sheds in
    let limit = subst (λ (l : ℕ). ShedsMany store.frames l made.count (lane_state lane) (places_of store.device) (log_state mid (lane_beside lane)) (places_of device))
    one.places frames in
    sheds_lift state i made.count (log_state mid (lane_beside lane)) (places_of device) below (ltb-true _ _ at.below)
    (subst (λ (l : LogState). ShedsMany store.frames store.limit made.count l (places_of store.device) (log_state mid (lane_beside lane)) (places_of device))
    (sym (log_there store.stripes.lanes.items i lane at.there)) limit)

-- where no place can be taken, pages alone left
pub met_full : (rest : State) (store : WorldLog) (i : ℕ) (lane new : Lane) (device : Shelves) → IsWorldLog store → IsReached store i lane
    → IsNumbered (lane_log new) → (lane_log new).places ≡ (lane_log lane).places
    → (does : DoesUnlink false (lane_log lane) (lane_beside lane) store.device (lane_log new) (lane_beside new) device)
    → StepsAll (state_beside rest store) (replicate (does.0).count i) (state_beside rest (with_both store i new device))
    × HasNoPlace (state_beside rest (with_both store i new device)) i
met_full rest store i lane new device is at fit alike does =
    let state : State = state_beside rest store in
    let one : IsLane store.device store.frames store.limit store.epoch lane = is.lanes i lane at.there in
    let within : i < length store.stripes.lanes.items = slice_get_within store.stripes.lanes.items i lane at.there in
    let below : i < length state.logs = omega (arith, within, length-map store.stripes.lanes.items lane_state) in
    let log : lane_state new ≡ log_state (lane_log new) (lane_beside lane) = ap (log_state (lane_log new)) does.2 in
    let after : State = placed state i (log_state (lane_log new) (lane_beside lane)) (places_of device) in
    let same : state_beside rest (with_both store i new device) ≡ after =
    ap (λ (l : List LogState). let s : State = record state { logs = l; places = places_of device } in s) (logs_with store i lane new _ at.there log) in
    let full : is_full store.limit (log_of after i) ≡ true =
    ap (is_full store.limit) (here state i (log_state (lane_log new) (lane_beside lane)) (places_of device) below)
    ∙ ap (λ (l : ℕ). is_full l (log_state (lane_log new) (lane_beside lane))) (sym (alike ∙ one.places))
    ∙ full_is (lane_log new) (lane_beside lane) fit (does.0).counted does.1 in (
      subst (StepsAll state (replicate (does.0).count i)) (sym same) (made_lift rest store i lane (lane_log new) device is at does.0),
      subst (λ (s : State). HasNoPlace s i) (sym same) full,
    )

-- what waits in the lane is the same then
pub met_waits : (store : WorldLog) (i : ℕ) (lane new : Lane) (device : Shelves) → slice_get store.stripes.lanes.items i ≡ Some lane
    → DoesUnlink false (lane_log lane) (lane_beside lane) store.device (lane_log new) (lane_beside new) device
    → SameWaiting (log_at (states_of store.stripes) i) (log_at (states_of (with_both store i new device).stripes) i)
met_waits store i lane new device there does =
    let within : i < length store.stripes.lanes.items = slice_get_within store.stripes.lanes.items i lane there in
    let below : i < length (states_of store.stripes) = omega (arith, within, length-map store.stripes.lanes.items lane_state) in
    let log : lane_state new ≡ log_state (lane_log new) (lane_beside lane) = ap (log_state (lane_log new)) does.2 in
    let now : log_at (states_of (with_both store i new device).stripes) i ≡ log_state (lane_log new) (lane_beside lane) =
    ap (λ (l : List LogState). log_at l i) (logs_with store i lane new _ there log) ∙ get_or-set_same (states_of store.stripes) i _ new_log below in
    let was : lane_state lane ≡ log_at (states_of store.stripes) i = sym (log_there store.stripes.lanes.items i lane there) in
    record {
      unlinked = ap (λ (l : LogState). l.unlinked) now ∙ ap (λ (l : LogState). l.unlinked) was;
      retired = ap (λ (l : LogState). l.retired) now ∙ ap (λ (l : LogState). l.retired) was;
      drained = ap (λ (l : LogState). l.drained) now ∙ ap (λ (l : LogState). l.drained) was;
    }

pub cleaned : (rest : State) (store : WorldLog) (i : ℕ) (lane new : Lane) (device : Shelves) → IsWorldLog store → IsReached store i lane
    → DoesUnlink true (lane_log lane) (lane_beside lane) store.device (lane_log new) (lane_beside new) device
    → Unlinks (state_beside rest store) i (state_beside rest (with_both store i new device))
cleaned rest store i lane new device is at does =
    let state : State = state_beside rest store in
    let within : i < length store.stripes.lanes.items = slice_get_within store.stripes.lanes.items i lane at.there in
    let below : i < length state.logs = omega (arith, within, length-map store.stripes.lanes.items lane_state) in
    let p : HybridLog = does.0 in
    let made : HasMadeRoom (lane_log lane) store.device p device (lane_beside lane) = does.1 in
    let done : HasUnlinked p (lane_beside lane) (lane_log new) (lane_beside new) = does.2 in
    let mid : State = placed state i (log_state p (lane_beside lane)) (places_of device) in
    let there : log_of mid i ≡ log_state p (lane_beside lane) = here state i (log_state p (lane_beside lane)) (places_of device) below in
    let step : LogState → LogState = λ l. without_oldest (with_opened l done.opened) done.place in
    let logs : map lane_state (set store.stripes.lanes.items i new) ≡ set mid.logs i (step (log_of mid i)) =
    logs_with store i lane new _ at.there (done.done ∙ ap step (sym there)) ∙ sym (set-set state.logs i (log_state p (lane_beside lane)) (step (log_of mid i))) in
    let same : state_beside rest (with_both store i new device) ≡ with_log mid i (step (log_of mid i)) =
    ap (λ (l : List LogState). let s : State = record state { logs = l; places = places_of device } in s) logs in
    subst (Unlinks state i) (sym same)
    (effects.Cleans made.count mid done.place done.opened (made_lift rest store i lane p device is at made)
    (subst (λ (l : LogState). l.oldest < l.first) (sym there) done.cold)
    (subst (λ (l : LogState). place_at l l.oldest ≡ Some done.place) (sym there) done.there)
    done.few)

unlink_enabled : (rest : State) (store : WorldLog) (i : ℕ) (lane : Lane) → IsReached store i lane
    → is_none (get_or store.stripes.holders.items i None) ≡ true
    → is_enabled_in (state_beside rest store) (event.Unlink i) ≡ nat_lt (lane_log lane).oldest (lane_log lane).resident.oldest
unlink_enabled rest store i lane at free =
    both_true _ _ (nat_lt (log_of (state_beside rest store) i).oldest (log_of (state_beside rest store) i).first) at.below free
    ∙ ap (λ (l : LogState). nat_lt l.oldest l.first) (log_there store.stripes.lanes.items i lane at.there)

-- it is enabled where the oldest page is not resident
pub told_unlink : (rest : State) (store : WorldLog) (i : ℕ) (lane : Lane) (cold : Bool) → IsReached store i lane
    → is_none (get_or store.stripes.holders.items i None) ≡ true → nat_lt (lane_log lane).oldest (lane_log lane).resident.oldest ≡ cold
    → cold ≡ is_enabled_in (state_beside rest store) (event.Unlink i)
told_unlink rest store i lane cold at free is = sym (unlink_enabled rest store i lane at free ∙ is)

-- the event did what it does
pub took_unlink : (rest : State) (i : ℕ) (old new : WorldLog) → is_enabled_in (state_of rest old) (event.Unlink i) ≡ true
    → Unlinks (state_of rest old) i (state_of rest new) → Took rest (event.Unlink i) old new
took_unlink rest i old new is does = when_true (is_enabled_in (state_of rest old) (event.Unlink i)) _ _ is does

-- RELEASE

released_log : (p : HybridLog) (before : Beside) (old : Shelves) (page : Bytes) (new : HybridLog) (after : Beside) (shown : Shelves)
    → DoesRelease true page p before old new after shown
    → (not (are_none (log_state p before).drained) ≡ true) × (log_state new after ≡ with_released (log_state p before))
    × (places_of shown ≡ places_released (places_of old) (log_state p before).drained page)
released_log p before old page new after shown does =
    let log : LogState = log_state p before in
    let drained : log.drained ≡ place_stamped does.0 ∷ map place_stamped does.1 = ap (map place_stamped) does.2 in (
      ap (λ (l : List Stamped). not (are_none l)) drained,
      ap (λ (q : HybridLog). log_state q after) does.5 ∙ ap (log_state p) does.3 ∙ sym (ap (λ (l : List Stamped). released_from log l) drained),
      ap places_of does.4 ∙ map-set page_released old.shelves (does.0).0.place (record { page = page; released = true })
          ∙ sym (ap (λ (l : List Stamped). places_released (places_of old) l page) drained),
    )

release_enabled : (rest : State) (store : WorldLog) (i : ℕ) (lane : Lane) (page : Bytes) → IsReached store i lane
    → is_enabled_in (state_beside rest store) (event.Release i page) ≡ not (are_none (lane_state lane).drained)
release_enabled rest store i lane page at =
    true_left _ (not (are_none (log_of (state_beside rest store) i).drained)) at.below
    ∙ ap (λ (l : LogState). not (are_none l.drained)) (log_there store.stripes.lanes.items i lane at.there)

pub told_release : (rest : State) (store : WorldLog) (i : ℕ) (lane new : Lane) (device : Shelves) (page : Bytes) (done : Bool)
    → IsReached store i lane
    → DoesRelease done page (lane_log lane) (lane_beside lane) store.device (lane_log new) (lane_beside new) device
    → done ≡ is_enabled_in (state_beside rest store) (event.Release i page)
told_release rest store i lane new device page true at does =
    sym (release_enabled rest store i lane page at
    ∙ (released_log (lane_log lane) (lane_beside lane) store.device page (lane_log new) (lane_beside new) device does).0)
told_release rest store i lane new device page false at does =
    sym (release_enabled rest store i lane page at ∙ ap (λ (l : List (Receipt × ℕ)). not (are_none (map place_stamped l))) does.0)

pub took_release : (rest : State) (store : WorldLog) (i : ℕ) (lane new : Lane) (device : Shelves) (page : Bytes) (done : Bool)
    → IsReached store i lane
    → DoesRelease done page (lane_log lane) (lane_beside lane) store.device (lane_log new) (lane_beside new) device
    → TookBeside rest (event.Release i page) store (with_both store i new device)
took_release rest store i lane new device page true at does =
    let state : State = state_beside rest store in
    let there = log_there store.stripes.lanes.items i lane at.there in
    let done = released_log (lane_log lane) (lane_beside lane) store.device page (lane_log new) (lane_beside new) device does in
    let logs : map lane_state (set store.stripes.lanes.items i new) ≡ set state.logs i (with_released (log_of state i)) =
    logs_with store i lane new _ at.there (done.1 ∙ ap with_released (sym there)) in
    let places : places_of device ≡ places_released state.places (log_of state i).drained page =
    done.2 ∙ ap (λ (l : LogState). places_released state.places l.drained page) (sym there) in
    when_true (is_enabled_in state (event.Release i page)) _ _
    (release_enabled rest store i lane page at ∙ done.0)
    (λ j. let s : State = record state { logs = logs j; places = places j } in s)
took_release rest store i lane new device page false at does =
    let state : State = state_beside rest store in
    when_false (is_enabled_in state (event.Release i page)) _ _
    (sym (told_release rest store i lane new device page false at does))
    (ap (λ (d : Shelves). let s : State = record (state_beside rest (with_lane store i new)) { places = places_of d } in s) does.3
    ∙ state_same rest store i lane new at.there
    (ap (λ (p : HybridLog). log_state p (lane_beside new)) does.2 ∙ ap (log_state (lane_log lane)) does.1))

-- WHAT IS GIVEN

-- the drained places of a stripe are places of the device
pub drained_there : (device : Shelves) (drained : List (Receipt × ℕ)) → Each (λ (one : Receipt × ℕ). IsGiven device one.0) drained → AreGiven drained device
drained_there device [] given = tt
drained_there device (one ∷ drained) given =
    (slice_get_within device.shelves one.0.place (given.0).shelf (given.0).there, drained_there device drained given.1)

-- what is kept of a stripe is served, where none of it was released
pub served_at : (store : WorldLog) (i : ℕ) (lane : Lane) → IsWorldLog store → slice_get store.stripes.lanes.items i ≡ Some lane → NoneReleasedAt store i
    → AreServed (lane_log lane) store.device
served_at store i lane is there none =
    served_kept (lane_log lane) (lane_beside lane) store.device (lane_of store i lane is there).given.kept
    (λ number place has. none number place (ap (λ (l : LogState). place_at l number) (log_there store.stripes.lanes.items i lane there) ∙ has))

-- ROOM FOR A PLAN

-- pages that leave, and then others
pub steps_both : (a : State) (one : List ℕ) (b : State) (other : List ℕ) (c : State) → StepsAll a one b → StepsAll b other c → StepsAll a (one ++ other) c
steps_both a [] b other c first second = subst (λ (s : State). StepsAll s other c) first second
steps_both a (i ∷ one) b other c first second = (first.0, first.1, steps_both first.0 one b other c first.2 second)

-- Pages that a commit opens, and what is read.
use Rattle.std.proofs.Common.{◌≡◌, ℕ, zero, suc, ◌+◌, ◌-◌, ◌<◌, ◌≤◌, Bool, true, false, List, [], ◌∷◌, ◌++◌, length, length-append, map, get_or, replicate, Option, Some, None, nat_lt, refl, sym, ap, ap₂, subst, ◌∙◌, inl, inr, arith, if◌then◌else◌, append-nil}
use Rattle.std.specs.Prelude.{slice_get, slice_index_or}
use Rattle.std.proofs.lemmas.Bool.{cases_lt}
use Rattle.std.proofs.lemmas.List.{length-map, map-append}
use Rattle.words.specs.declared.limits.TheConstants.{WEIGHT_MAX}
use Rattle.words.specs.Store.{Bytes, Write, weight}
use Rattle.words.specs.Stripes.{stripe_of}
use Rattle.frames.specs.Resident.{IsResident, next_number}
use Rattle.hybrid.specs.Growth.{GrowthLaws}
use Rattle.hybrid.specs.HybridLog.{HybridLog, IsGrown, Kept, receipt_at, receipt_of}
use Rattle.hybrid.specs.Staging.{StagedPage}
use Rattle.plans.specs.Reading as reading
use Rattle.shards.specs.Rooms as rooms
use Rattle.shards.specs.Rooms.{share}
use Rattle.plans.specs.Stops.{IsCold}
use Rattle.world_model.specs.Commits.{OpensPages, OPENED_MAX}
use Rattle.world_model.specs.Enabled.{holds}
use Rattle.world_model.specs.Logs.{LogState, new_log, unreleased, with_opened, place_at}
use Rattle.world_model.specs.Rooms.{is_written_in}
use Rattle.world_model.specs.States.{State, log_at}
use Rattle.world_log.specs.Beside.{Beside, IsNumbered, log_state, place_kept}
use Rattle.world_log.specs.Cleaning.{AreServed}
use Rattle.world_log.specs.Given.{AreGivenKept, IsGivenKept}
use Rattle.world_log.specs.Places.{Receipt, Serves, SamePlaces, Shelf, Shelves, identity, page_released, writes_of}
use Rattle.world_log.specs.PlanLaws.{IsColdIn, logs_lent, with_parts}
use Rattle.world_log.specs.Stripes.{KeepsOthers, lane_beside, lane_log, lane_state, queues_in, states_of}
use Rattle.world_log.specs.WorldLogs.{IsLane, IsWorldLog, NoneReleasedAt, state_of}
use Rattle.world_log.specs.Types.{Lane, Stripes}
use Rattle.world_log.specs.declared.logs.WorldLog.{WorldLog}
use Rattle.world_log.proofs.Agreeing.{place_is, total}
use Rattle.world_log.proofs.AllGiven.{some_front}
use Rattle.world_log.proofs.CleanSteps.{copy_served, faithful_step, len_opened}
use Rattle.world_log.proofs.GivenSteps.{given_places}
use Rattle.world_log.proofs.LaneSteps.{log_there, store_device}
use Rattle.world_log.proofs.Planning.{IsLent, IsRight, beside_lent, is_lent, lanes_right, lane_right, lent_log, share_light, unwritten_share}
use Rattle.world_log.proofs.RoomSteps.{served_at}

-- A LOG THAT HAS GROWN

nones : (n : ℕ) → map place_kept (replicate n None) ≡ replicate n None
nones zero = refl
nones (suc n) = ap (λ (l : List (Option ℕ)). None ∷ l) (nones n)

-- as plain data
grown_state : (old new : HybridLog) (weight_is : ℕ) (beside : Beside) → (grown : IsGrown old new weight_is)
    → log_state new beside ≡ with_opened (log_state old beside) grown.opened
grown_state old new weight_is beside grown =
    ap (λ (o : ℕ). record (log_state new beside) { oldest = o }) grown.oldest
    ∙ ap (λ (f : ℕ). record (log_state new beside) { oldest = old.oldest; first = f }) grown.first
    ∙ ap (λ (k : List (Option ℕ)). record (log_state old beside) { kept = k })
    (ap (map place_kept) grown.kept ∙ map-append place_kept old.kept (replicate grown.opened None)
    ∙ ap (λ (l : List (Option ℕ)). map place_kept old.kept ++ l) (nones grown.opened))

grown_counts : (log : LogState) (opened : ℕ) → unreleased (with_opened log opened) ≡ unreleased log
grown_counts log opened = omega (arith, total log, total (with_opened log opened), len_opened log.kept opened)

count_is : {X : Type 0} (x : X) (n : ℕ) → length (replicate n x) ≡ n
count_is x zero = refl
count_is x (suc n) = ap suc (count_is x n)

pub grown_right : (log : WorldLog) (lane : Lane) (old new : HybridLog) (weight_is : ℕ) → IsGrown old new weight_is → IsRight log log.device lane old
    → IsRight log log.device lane new
grown_right log lane old new weight_is grown right = record {
  numbered = record {
    live = omega (arith, grown.oldest, grown.first, (right.numbered).live);
    numbered = omega (arith, grown.oldest, grown.next, (right.numbered).numbered, kept_length);
  };
  counted = grown.unreleased ∙ right.counted ∙ sym (ap unreleased (grown_state old new weight_is (lane_beside lane) grown) ∙ grown_counts (log_state old (lane_beside lane)) grown.opened);
  faithful = faithful_step old new lane.queues.flushing (omega (arith, grown.first, grown.next, grown.frames)) (omega (arith, grown.first))
      (λ k from lt. grown.read_only k (omega (arith, grown.first, from)) lt) right.faithful;
  frames = grown.frames ∙ right.frames;
  places = grown.places ∙ right.places;
  kept = λ i one is. right.kept i one (some_front old.kept grown.opened i one (ap (λ (l : List (Option Kept)). slice_index_or l i None) (sym grown.kept) ∙ is));
}
  where
    kept_length : length new.kept ≡ length old.kept + grown.opened
    kept_length =
        ap (λ (l : List (Option Kept)). length l) grown.kept ∙ length-append old.kept (replicate grown.opened None)
        ∙ ap (λ (k : ℕ). length old.kept + k) (count_is (let o : Option Kept = None in o) grown.opened)

-- COMMITS

module _ (laws : GrowthLaws) (rest later : State) (log : WorldLog) (stripes : Stripes) (writes : List Write) (is : IsWorldLog log)
    (keeps : KeepsOthers log.stripes stripes) (light : weight writes ≤ WEIGHT_MAX)
    (grown : rooms.HaveGrown (length log.stripes.holders.items) writes (logs_lent log.stripes) (logs_lent stripes)) where
  abbrev n : ℕ
  n = length log.stripes.holders.items

  some_log : {a b : HybridLog} → Option.Some a ≡ Some b → a ≡ b
  some_log x = cc x

  some_lane : {a b : Lane} → Option.Some a ≡ Some b → a ≡ b
  some_lane x = cc x

  none : {X : Type 0} {x : X} → Option.None ≡ Some x → ⊥
  none x = cc x

  none_of : {X : Type 0} {x : X} → Some x ≡ Option.None → ⊥
  none_of x = cc x

  pub opened_log : IsWorldLog (with_parts log stripes log.device)
  opened_log = lanes_right log stripes log.device is keeps (λ r given. given)
      (λ i lane p there has.
      let was = grown.was i p has in
      let one : IsLent log.stripes i was.0 = is_lent log.stripes i was.0 was.1 in
      let right : IsRight log log.device lane was.0 =
      subst (IsRight log log.device lane) (ap lane_log (some_lane (sym there ∙ one.there)) ∙ sym one.log) (lane_right log i lane is there) in
      grown_right log lane was.0 p (share n i writes) was.2 right)

  abbrev Opened : ℕ → LogState → LogState → Type 0
  Opened i before after = (opened : ℕ) × (opened ≤ OPENED_MAX) × (after ≡ with_opened before opened) × (is_written_in n writes i ≡ false → opened ≡ 0)

  same_opened : (i : ℕ) (before after : LogState) → after ≡ before → Opened i before after
  same_opened i before after same =
      (0, omega arith, same ∙ ap (λ (l : List (Option ℕ)). record before { kept = l }) (sym (append-nil before.kept)), λ none. refl)

  held_opened : (i : ℕ) (lane other : Lane) → slice_get log.stripes.lanes.items i ≡ Some lane → slice_get stripes.lanes.items i ≡ Some other
      → holds stripes.holders.items stripes.acting i ≡ true → Opened i (lane_state lane) (lane_state other)
  held_opened i lane other there at held =
      let has : logs_lent stripes i ≡ Some (lane_log other) = lent_log stripes i other held at in
      let was = grown.was i (lane_log other) has in
      let one : IsLent log.stripes i was.0 = is_lent log.stripes i was.0 was.1 in
      let old_is : was.0 ≡ lane_log lane = one.log ∙ ap lane_log (some_lane (sym one.there ∙ there)) in
      let beside : lane_beside other ≡ lane_beside lane = beside_lent log.stripes stripes keeps i lane other there at held in (
        (was.2).opened,
        laws.few was.0 (lane_log other) (share n i writes) (omega (arith, light, share_light n i writes)) was.2,
        ap (log_state (lane_log other)) beside ∙ grown_state was.0 (lane_log other) (share n i writes) (lane_beside lane) was.2
            ∙ ap (λ (p : HybridLog). with_opened (log_state p (lane_beside lane)) (was.2).opened) old_is,
        λ unwritten. never_opened was.0 (lane_log other) was.2
            (some_log (sym has ∙ grown.unwritten i (unwritten_share n i writes unwritten) ∙ was.1)),
      )
    where
      never_opened : (old new : HybridLog) → (one : IsGrown old new (share n i writes)) → new ≡ old → one.opened ≡ 0
      never_opened old new one same =
          omega (
            arith,
            ap (λ (p : HybridLog). length p.kept) same,
            ap (λ (l : List (Option Kept)). length l) one.kept,
            length-append old.kept (replicate one.opened None),
            count_is (let o : Option Kept = None in o) one.opened,
          )

  opened_at : (i : ℕ) (a b : Option Lane) → slice_get log.stripes.lanes.items i ≡ a → slice_get stripes.lanes.items i ≡ b
      → Opened i (log_at (states_of log.stripes) i) (log_at (states_of stripes) i)
  opened_at i None None there at =
      same_opened i _ _ (away_log stripes.lanes.items i at ∙ sym (away_log log.stripes.lanes.items i there))
    where
      away_log : (lanes : List Lane) (i : ℕ) → slice_get lanes i ≡ None → log_at (map lane_state lanes) i ≡ new_log
      away_log [] i away = refl
      away_log (one ∷ lanes) zero away = absurd (none_of away)
      away_log (one ∷ lanes) (suc i) away = away_log lanes i away
  opened_at i (Some lane) None there at = absurd (none (sym (sym (ap queues_in there) ∙ sym (keeps.queues i) ∙ ap queues_in at)))
  opened_at i None (Some other) there at = absurd (none (sym (sym (ap queues_in at) ∙ keeps.queues i ∙ ap queues_in there)))
  opened_at i (Some lane) (Some other) there at = by_holder (holds stripes.holders.items stripes.acting i) refl
    where
      both : Opened i (lane_state lane) (lane_state other) → Opened i (log_at (states_of log.stripes) i) (log_at (states_of stripes) i)
      both opened =
          subst (λ (before : LogState). Opened i before (log_at (states_of stripes) i)) (sym (log_there log.stripes.lanes.items i lane there))
          (subst (Opened i (lane_state lane)) (sym (log_there stripes.lanes.items i other at)) opened)

      by_holder : (t : Bool) → holds stripes.holders.items stripes.acting i ≡ t → Opened i (log_at (states_of log.stripes) i) (log_at (states_of stripes) i)
      by_holder true held = both (held_opened i lane other there at held)
      by_holder false away =
          both (same_opened i (lane_state lane) (lane_state other)
          (ap lane_state (some_lane (sym at ∙ keeps.others i ((λ j. holds ((sym keeps.holders j).items) (sym keeps.acting j) i) ∙ away) ∙ there))))

  pub opened_pages : OpensPages (state_of rest log) writes (state_of later (with_parts log stripes log.device))
  opened_pages = record {
    count = length-map stripes.lanes.items lane_state ∙ keeps.count ∙ sym (length-map log.stripes.lanes.items lane_state);
    logs = λ i. opened_at i _ _ refl refl;
    places = refl;
    epoch = refl;
    frames = refl;
    limit = refl;
  }

-- READS

shelves_same : (xs ys : List Shelf) → length ys ≡ length xs → ((i : ℕ) (x : Shelf) → slice_get xs i ≡ Some x → slice_get ys i ≡ Some x) → ys ≡ xs
shelves_same [] [] count each = refl
shelves_same [] (y ∷ ys) count each = absurd (omega (arith, count))
shelves_same (x ∷ xs) [] count each = absurd (omega (arith, count))
shelves_same (x ∷ xs) (y ∷ ys) count each =
    ap₂ (λ (s : Shelf) (l : List Shelf). s ∷ l) (some_shelf (each 0 x refl)) (shelves_same xs ys (omega (arith, count)) (λ i s. each (suc i) s))
  where
    some_shelf : {a b : Shelf} → Option.Some a ≡ Some b → a ≡ b
    some_shelf is = cc is

pub places_read : (old new : Shelves) → ((r : Receipt) → Serves old r → Serves new r) → new.failures ≡ old.failures → writes_of new ≡ writes_of old
    → SamePlaces old new
places_read old new still failures writes = shelves_same old.shelves new.shelves (omega (arith, failures, writes))
    (λ i shelf is. still (record { place = i; page = shelf.page; released = shelf.released }) is)

pub log_read : (log : WorldLog) (device : Shelves) → SamePlaces log.device device → IsWorldLog log → IsWorldLog (with_parts log log.stripes device)
log_read log device same is = store_device log device (given_places log.device device same) is

pub state_read : (rest : State) (log : WorldLog) (device : Shelves) → SamePlaces log.device device
    → state_of rest (with_parts log log.stripes device) ≡ state_of rest log
state_read rest log device same = ap (λ (l : List Shelf). let s : State = record (state_of rest log) { places = map page_released l } in s) same

-- a receipt that is kept of a page that is live
pub at_of : (p : HybridLog) (number : ℕ) (one : Kept) → receipt_at p number ≡ Some one → (p.oldest ≤ number) × (receipt_of p number ≡ Some one)
at_of p number one is = elim (cases_lt number p.oldest) as (λ _. (p.oldest ≤ number) × (receipt_of p number ≡ Some one)) [
  | inl below ↦
      let t : nat_lt number p.oldest ≡ true = grind arith in
      absurd (none (sym (ap (λ (b : Bool). if b then None else receipt_of p number) t) ∙ is))
  | inr live ↦
      let t : nat_lt number p.oldest ≡ false = grind arith in
      (live, sym (ap (λ (b : Bool). if b then None else receipt_of p number) t) ∙ is)
]
  where
    none : Option.None ≡ Some one → ⊥
    none x = cc x

pub served_lent : (log : WorldLog) → IsWorldLog log → ((i : ℕ) → NoneReleasedAt log i) → reading.AreServed Serves identity log.device (logs_lent log.stripes)
served_lent log is none i p number one lent has r same =
    let lane : IsLent log.stripes i p = is_lent log.stripes i p lent in
    let served : AreServed p log.device =
    subst (λ (q : HybridLog). AreServed q log.device) (sym lane.log) (served_at log i lane.lane is lane.there (none i)) in
    copy_served log.device one r (served (number - p.oldest) one (at_of p number one has).1) same

-- RECEIPTS OF COLD PAGES

within_kept : (kept : List (Option Kept)) (i : ℕ) (one : Kept) → slice_index_or kept i None ≡ Some one → i < length kept
within_kept [] i one is = absurd (none is)
  where
    none : Option.None ≡ Some one → ⊥
    none x = cc x
within_kept (k ∷ kept) zero one is = omega arith
within_kept (k ∷ kept) (suc i) one is = omega (arith, within_kept kept i one is)

pub cold_lent : (log : WorldLog) (n : ℕ) (keys : List Bytes) (staged : List StagedPage) (kept : Kept)
    → IsWorldLog log → IsCold n (logs_lent log.stripes) keys staged kept → IsColdIn log kept
cold_lent log n keys staged kept is cold =
    let i : ℕ = stripe_of n cold.key in
    let p : HybridLog = cold.log in
    let lane : IsLent log.stripes i p = is_lent log.stripes i p cold.there in
    let right : IsLane log.device log.frames log.limit log.epoch lane.lane = is.lanes i lane.lane lane.there in
    let number : ℕ = (cold.wanted).number in
    let at = at_of p number kept (cold.wanted).receipt in
    let kept_all : AreGivenKept p log.device = subst (λ (q : HybridLog). AreGivenKept q log.device) (sym lane.log) (right.given).kept in
    let numbered : IsNumbered p = subst IsNumbered (sym lane.log) right.numbered in
    let one : IsGivenKept log.device kept = kept_all (number - p.oldest) kept at.1 in
    let receipt : Receipt = record { place = get_or kept.identity 0 0; page = kept.shown; released = false } in
    let within : number - p.oldest < length p.kept = within_kept p.kept (number - p.oldest) kept at.1 in
    let away : number < p.resident.oldest = not_resident p number (cold.wanted).missing.away (omega (arith, within, at.0, numbered.numbered)) in
    let state_is : log_at (states_of log.stripes) i ≡ log_state p (lane_beside lane.lane) =
    log_there log.stripes.lanes.items i lane.lane lane.there ∙ ap (λ (q : HybridLog). log_state q (lane_beside lane.lane)) (sym lane.log) in
    record {
      receipt = receipt;
      is = ap (λ (l : List ℕ). record { identity = l; shown = kept.shown }) one.identity;
      given = one.given;
      stripe = i;
      held = lane.held;
      number = number;
      away = subst (λ (l : LogState). number < l.first) (sym state_is) away;
      place = subst (λ (l : LogState). place_at l number ≡ Some receipt.place) (sym state_is)
          (place_is p (lane_beside lane.lane) numbered number at.0 ∙ ap place_kept at.1);
    }
  where
    not_resident : (p : HybridLog) (number : ℕ) → (IsResident p.resident number → ⊥) → number < next_number p.resident → number < p.resident.oldest
    not_resident p number away below = elim (cases_lt number p.resident.oldest) as (λ _. number < p.resident.oldest) [
      | inl lt ↦ lt
      | inr le ↦ absurd (away (le, below))
    ]

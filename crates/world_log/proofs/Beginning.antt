-- Stripes that store nothing.
use Rattle.std.proofs.Common.{◌≡◌, ℕ, zero, suc, ◌+◌, ◌≤◌, List, [], ◌∷◌, ◌++◌, length, length-append, map, replicate, Option, Some, None, refl, sym, ap, subst, ◌∙◌, arith, inl, inr, ◌⊎◌}
use Rattle.std.specs.Prelude.{false, slice_get, slice_index_or}
use Rattle.words.specs.Store.{Bytes, empty}
use Rattle.words.specs.Stripes.{stripe_of}
use Rattle.records.specs.Page.{empty_page}
use Rattle.records.specs.Records.{Stored, records_of}
use Rattle.hybrid.specs.HybridLog.{HybridLog, IsHybridLog, Kept, empty_log, log_of}
use Rattle.hybrid.specs.Log.{Log, contents, log_from, newest, newest_first, page_log, value_of}
use Rattle.shards.specs.Counted.{Counted}
use Rattle.shards.specs.Shards.{shard_counted, shard_log, shard_marks}
use Rattle.shards.specs.declared.shard.Shard.{Shard}
use Rattle.world_model.specs.Logs.{LogState, new_log, unreleased}
use Rattle.world_model.specs.States.{State, start}
use Rattle.world_log.specs.Beside.{Beside, IsFaithful, beside_of, count_flushing, flushing_of, log_state, place_of, place_stamped}
use Rattle.world_log.specs.Given.{IsGiven, IsGivenBy, IsGivenKept}
use Rattle.world_model.specs.Places.{Each}
use Rattle.world_log.specs.Lanes.{AreNewLanes, IsNewLane}
use Rattle.world_log.specs.Places.{Receipt, Shelves, places_of}
use Rattle.world_log.specs.Stripes.{lane_state, marks_in, store_in}
use Rattle.world_log.specs.WorldLogs.{AreRising, IsLane, IsWorldLog, state_of}
use Rattle.world_log.specs.declared.queues.Queues.{Queues}
use Rattle.world_log.specs.declared.queues.Flushing.TheVariants as has
use Rattle.world_log.specs.Types.{Lane}
use Rattle.world_log.specs.declared.logs.WorldLog.{WorldLog}
use Rattle.world_log.proofs.Agreeing.{numbered_of}

-- AN EMPTY LOG

no_page : (number : ℕ) (page : List ℕ) → records_of page ≡ [] → page_log number page ≡ []
unfolding page_log
no_page number page none = ap (newest_first number) none

no_log : (page : List ℕ) → records_of page ≡ [] → log_from 0 (page ∷ []) ≡ []
unfolding log_from
no_log page none = no_page 0 page none

no_newest : (key : List ℕ) → newest [] key ≡ None
unfolding newest
no_newest key = refl

no_value : (key : List ℕ) → contents [] key ≡ None
unfolding contents
no_value key = by_newest (newest [] key) (no_newest key)
  where
    by_newest : (o : Option (ℕ × Stored)) → o ≡ None → value_of o ≡ None
    by_newest None is = refl
    by_newest (Some e) is = absurd (cc is)

-- A NEW LANE

-- nothing stands beside its log
record AreEmpty (beside : Beside) : Type 0 where
  flushing : beside.flushing ≡ has.Nothing
  unlinked : beside.unlinked ≡ []
  retired : beside.retired ≡ []
  drained : beside.drained ≡ []

state_is : (p : HybridLog) (beside : Beside) (stripes buckets frames places : ℕ) → p ≡ empty_log stripes buckets frames places → AreEmpty beside
    → log_state p beside ≡ new_log
state_is p beside stripes buckets frames places is none =
    ap (λ (q : HybridLog). log_state q beside) is
    ∙ (λ j. record new_log {
      flushing = flushing_of (none.flushing j);
      unlinked = map place_of (none.unlinked j);
      retired = map place_stamped (none.retired j);
      drained = map place_stamped (none.drained j);
    })

never_kept : (i : ℕ) (kept : Kept) → slice_index_or (None ∷ []) i None ≡ Some kept → ⊥
never_kept zero kept is = cc is
never_kept (suc i) kept is = cc is

pub new_lane : (shard : Shard Receipt) (queues : Queues) (stripes buckets frames places : ℕ)
    → shard_log shard ≡ empty_log stripes buckets frames places
    → shard_counted shard ≡ record { log = shard_log shard; in_flight = 0; unlinked = []; retired = []; drained = []; refused = []; worn = false }
    → ((key : Bytes) (session : ℕ) → shard_marks shard key session ≡ None)
    → IsHybridLog (shard_log shard) → records_of (empty_page 0) ≡ []
    → queues.flushing ≡ has.Nothing → queues.retired.items ≡ [] → queues.drained.items ≡ []
    → IsNewLane frames places (record { shard = shard; queues = queues })
new_lane shard queues stripes buckets frames places log counted marks fit none flushing retired drained =
    let unlinked : (shard_counted shard).unlinked ≡ [] = ap (λ (c : Counted). c.unlinked) counted in
    let are : AreEmpty (beside_of (shard_counted shard) queues) =
    record { flushing = flushing; unlinked = unlinked; retired = retired; drained = drained } in
    let state : log_state (shard_log shard) (beside_of (shard_counted shard) queues) ≡ new_log =
    state_is (shard_log shard) (beside_of (shard_counted shard) queues) stripes buckets frames places log are in
    record {
      log = state;
      store = λ key.
          ap (λ (p : HybridLog). contents (log_of p) key) log
          ∙ ap (λ (l : Log). contents l key) (no_log (empty_page 0) none) ∙ no_value key;
      marks = marks;
      right = record {
        agrees = record {
          counted = ap (λ (p : HybridLog). p.unreleased) log ∙ sym (ap unreleased state);
          in_flight = ap (λ (c : Counted). c.in_flight) counted
              ∙ (λ j. count_flushing (sym flushing j) + length (sym retired j) + length (sym drained j));
          retired = ap (λ (c : Counted). c.retired) counted;
          drained = ap (λ (c : Counted). c.drained) counted;
          faithful = subst (IsFaithful (shard_log shard)) (sym flushing) tt;
        };
        numbered = numbered_of (shard_log shard) fit;
        frames = ap (λ (p : HybridLog). p.resident.frames) log;
        places = ap (λ (p : HybridLog). p.places) log;
        stamps = subst (λ (l : List (Receipt × ℕ)). AreRising 1 (map place_stamped l)) (sym retired) tt;
        given = record {
          kept = λ i kept is. absurd (never_kept i kept (sym (ap (λ (p : HybridLog). slice_index_or p.kept i None) log) ∙ is));
          flushing = subst (IsGivenBy _) (sym flushing) tt;
          unlinked = subst (Each (IsGivenKept _)) (sym unlinked) tt;
          retired = subst (Each (λ (one : Receipt × ℕ). IsGiven _ one.0)) (sym retired) tt;
          drained = subst (Each (λ (one : Receipt × ℕ). IsGiven _ one.0)) (sym drained) tt;
        };
      };
    }

-- SO MANY OF THEM

pub no_lanes : (frames places : ℕ) (lanes : List Lane) → lanes ≡ [] → AreNewLanes 0 frames places lanes
no_lanes frames places lanes is = record {
  count_is = ap (λ (l : List Lane). length l) is;
  each = λ i lane there. absurd (never i lane (sym (ap (λ (l : List Lane). slice_get l i) is) ∙ there));
}
  where
    never : (i : ℕ) (lane : Lane) → slice_get [] i ≡ Some lane → ⊥
    never i lane x = cc x

last_cases : (lanes : List Lane) (new : Lane) (i : ℕ) (lane : Lane) → slice_get (lanes ++ new ∷ []) i ≡ Some lane → (lane ≡ new) ⊎ (slice_get lanes i ≡ Some lane)
last_cases [] new zero lane is = inl (cc is)
last_cases [] new (suc i) lane is = absurd (cc is)
last_cases (one ∷ lanes) new zero lane is = inr is
last_cases (one ∷ lanes) new (suc i) lane is = last_cases lanes new i lane is

pub one_lane_more : (count frames places : ℕ) (lanes more : List Lane) (new : Lane) → AreNewLanes count frames places lanes → IsNewLane frames places new
    → more ≡ lanes ++ new ∷ [] → AreNewLanes (count + 1) frames places more
one_lane_more count frames places lanes more new are one is = record {
  count_is = ap (λ (l : List Lane). length l) is ∙ omega (arith, length-append lanes (new ∷ []), are.count_is);
  each = λ i lane there. elim (last_cases lanes new i lane (sym (ap (λ (l : List Lane). slice_get l i) is) ∙ there)) as (λ _. IsNewLane frames places lane) [
    | inl same ↦ subst (IsNewLane frames places) (sym same) one
    | inr before ↦ are.each i lane before
  ];
}

logs_new : (count frames places : ℕ) (lanes : List Lane) → AreNewLanes count frames places lanes → map lane_state lanes ≡ replicate count new_log
logs_new zero frames places [] are = refl
logs_new (suc count) frames places [] are = absurd (omega (arith, are.count_is))
logs_new zero frames places (lane ∷ lanes) are = absurd (omega (arith, are.count_is))
logs_new (suc count) frames places (lane ∷ lanes) are =
    (λ j. (are.each 0 lane refl).log j ∷ map lane_state lanes)
    ∙ ap (λ (l : List LogState). new_log ∷ l)
    (logs_new count frames places lanes (record { count_is = omega (arith, are.count_is); each = λ i one. are.each (suc i) one }))

store_new : (count frames places : ℕ) (lanes : List Lane) → AreNewLanes count frames places lanes → (o : Option Lane) (i : ℕ) → slice_get lanes i ≡ o
    → ((key : Bytes) → store_in o key ≡ empty key) × ((key : Bytes) (session : ℕ) → marks_in o key session ≡ None)
store_new count frames places lanes are None i there = (λ key. refl, λ key session. refl)
store_new count frames places lanes are (Some lane) i there = ((are.each i lane there).store, (are.each i lane there).marks)

-- THE LOG OF A NEW WORLD

module _ (log : WorldLog) (stripes frames limit : ℕ) (lanes : AreNewLanes stripes frames limit log.stripes.lanes.items)
    (holders : log.stripes.holders.items ≡ replicate stripes None) (device : log.device ≡ record { shelves = []; failures = 0; reads = 0; releases = 0 })
    (epoch : log.epoch ≡ 1) (frames_is : log.frames ≡ frames) (limit_is : log.limit ≡ limit) where
  pub new_state : (rest : State) → state_of rest log ≡ record (start stripes 0 frames limit) { clients = rest.clients; history = rest.history }
  new_state rest = λ j. record rest {
    holders = holders j;
    stores = λ i key. (store_new stripes frames limit log.stripes.lanes.items lanes _ i refl).0 key j;
    marks = λ key session. (store_new stripes frames limit log.stripes.lanes.items lanes _ (stripe_of (length log.stripes.holders.items) key) refl).1 key session j;
    logs = logs_new stripes frames limit log.stripes.lanes.items lanes j;
    places = places_of (device j);
    epoch = epoch j;
    frames = frames_is j;
    limit = limit_is j;
  }

  count_new : {X : Type 0} (x : X) (n : ℕ) → length (replicate n x) ≡ n
  count_new x zero = refl
  count_new x (suc n) = ap suc (count_new x n)

  holders_count : length log.stripes.holders.items ≡ stripes
  holders_count = ap (λ (l : List (Option ℕ)). length l) holders ∙ count_new (let o : Option ℕ = None in o) stripes

  pub new_right : 1 ≤ stripes → stripes ≤ 64 → IsWorldLog log
  new_right some most = record {
    even = record {
      lanes = lanes.count_is ∙ sym holders_count;
      some = omega (arith, some, holders_count);
      most = omega (arith, most, holders_count);
    };
    lanes = λ i lane there.
        subst (λ (l : ℕ). IsLane log.device log.frames l log.epoch lane) (sym limit_is)
        (subst (λ (f : ℕ). IsLane log.device f limit log.epoch lane) (sym frames_is)
        (subst (λ (e : ℕ). IsLane log.device frames limit e lane) (sym epoch)
        (subst (λ (d : Shelves). IsLane d frames limit 1 lane) (sym device) (lanes.each i lane there).right)));
  }

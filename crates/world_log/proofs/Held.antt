-- Stripes that are held keep their rooms, whatever flusher, evictor and cleaner do.
use Rattle.std.proofs.Common.{◌≡◌, ℕ, zero, suc, ◌+◌, ◌-◌, ◌<◌, ◌≤◌, Bool, true, false, List, [], ◌∷◌, length, map, get_or, set, Option, Some, None, is_none, nat_lt, refl, sym, ap, subst, ◌∙◌, inl, inr, arith, if◌then◌else◌}
use Rattle.std.specs.Prelude.{slice_get}
use Rattle.std.proofs.lemmas.Bool.{cases_eq, cases_lt}
use Rattle.frames.specs.Resident.{IsResident}
use Rattle.hybrid.specs.HybridLog.{HybridLog, HasRoom, IsHybridLog, Kept, receipt_at, receipt_of}
use Rattle.world_model.specs.Enabled.{holds}
use Rattle.world_model.specs.Logs.{LogState, new_log, place_at}
use Rattle.world_model.specs.States.{log_at}
use Rattle.world_log.specs.Beside.{Beside, DoesRelease, place_kept, place_of}
use Rattle.world_log.specs.Lanes.{IsOfPlace}
use Rattle.world_log.specs.Places.{Shelves}
use Rattle.world_log.specs.Stripes.{IsKeeper, KeepsAway, lane_beside, lane_log, lane_state}
use Rattle.world_log.specs.WorldLogs.{KeepsHeld}
use Rattle.world_log.specs.Types.{Lane, Stripes}
use Rattle.world_log.specs.declared.logs.WorldLog.{WorldLog}
use Rattle.words.specs.Store.{Bytes}
use Rattle.world_log.proofs.Agreeing.{numbered_of, place_is}
use Rattle.world_log.proofs.GivenSteps.{get_other, get_set}
use Rattle.world_log.proofs.LaneSteps.{log_there, with_lane}
use Rattle.world_log.proofs.Opening.{at_of}

pub held_same : (stripes : Stripes) → KeepsHeld stripes stripes
held_same stripes = record { holders = refl; rooms = λ i c lane held there. (lane, there, λ weight room. room) }

some_lane : {a b : Lane} → Option.Some a ≡ Some b → a ≡ b
some_lane is = cc is

-- a step on one stripe that keeps its room
pub held_with : (store : WorldLog) (i : ℕ) (lane new : Lane) → slice_get store.stripes.lanes.items i ≡ Some lane
    → ((weight : ℕ) → HasRoom (lane_log lane) weight → HasRoom (lane_log new) weight) → KeepsHeld store.stripes (with_lane store i new).stripes
held_with store i lane new here keeps = record {
  holders = refl;
  rooms = λ j c one held there. elim (cases_eq j i) as
      (λ _. (later : Lane) × (slice_get (set store.stripes.lanes.items i new) j ≡ Some later)
      × ((weight : ℕ) → HasRoom (lane_log one) weight → HasRoom (lane_log later) weight)) [
        | inl same ↦ (
          new,
          ap (slice_get (set store.stripes.lanes.items i new)) same ∙ get_set store.stripes.lanes.items i new lane here,
          λ weight room. keeps weight (subst (λ (l : Lane). HasRoom (lane_log l) weight) (some_lane (sym there ∙ ap (slice_get store.stripes.lanes.items) same ∙ here)) room),
        )
        | inr other ↦ (one, get_other store.stripes.lanes.items i j new other ∙ there, λ weight room. room)
      ];
}

-- a step on one that nobody holds
pub held_free : (store : WorldLog) (i : ℕ) (lane new : Lane) → is_none (get_or store.stripes.holders.items i None) ≡ true
    → KeepsHeld store.stripes (with_lane store i new).stripes
held_free store i lane new free = record {
  holders = refl;
  rooms = λ j c one held there. elim (cases_eq j i) as
      (λ _. (later : Lane) × (slice_get (set store.stripes.lanes.items i new) j ≡ Some later)
      × ((weight : ℕ) → HasRoom (lane_log one) weight → HasRoom (lane_log later) weight)) [
        | inl same ↦ absurd (never (sym (ap is_none (ap (λ (k : ℕ). get_or store.stripes.holders.items k None) (sym same) ∙ held)) ∙ free))
        | inr other ↦ (one, get_other store.stripes.lanes.items i j new other ∙ there, λ weight room. room)
      ];
}
  where
    never : false ≡ true → ⊥
    never x = cc x

-- a release keeps the room
pub held_release : (done : Bool) (page : Bytes) (old new : HybridLog) (before after : Beside) (device shown : Shelves)
    → DoesRelease done page old before device new after shown → (weight : ℕ) → HasRoom old weight → HasRoom new weight
held_release true page old new before after device shown does weight room =
    subst (λ (p : HybridLog). HasRoom p weight) (sym does.5) (record {
      room = elim room.room [ inl fits ↦ inl fits | inr frames ↦ inr (record { frames = frames.frames; numbers = frames.numbers }) ];
    })
held_release false page old new before after device shown does weight room = subst (λ (p : HybridLog). HasRoom p weight) (sym does.2) room

-- A RECEIPT OF A PAGE THAT IS NOT RESIDENT

-- a page that is not resident, from the oldest on up to the first resident one
pub below_first : (p : HybridLog) (number : ℕ) → IsHybridLog p → number ≤ p.resident.oldest → (IsResident p.resident number → ⊥) → number < p.resident.oldest
below_first p number fit le away = elim (cases_lt number p.resident.oldest) as (λ _. number < p.resident.oldest) [
  | inl lt ↦ lt
  | inr ge ↦ absurd (away (ge, omega (arith, le, ge, fit.tail)))
]

pub keeps_here : (lane : Lane) (number place : ℕ) → IsHybridLog (lane_log lane) → number < (lane_log lane).resident.oldest
    → IsOfPlace (lane_log lane) number place → KeepsAway lane place
keeps_here lane number place fit away one =
    let at = at_of (lane_log lane) number _ one.kept in
    record {
      number = number;
      away = away;
      kept = place_is (lane_log lane) (lane_beside lane) (numbered_of (lane_log lane) fit) number at.0 ∙ ap place_kept at.1 ∙ ap (λ (k : ℕ). Some k) one.of;
    }

pub keeper_here : (stripes : Stripes) (c place i : ℕ) (lane : Lane) → slice_get stripes.lanes.items i ≡ Some lane
    → holds stripes.holders.items c i ≡ true → KeepsAway lane place → IsKeeper stripes c place i
keeper_here stripes c place i lane there held keeps =
    let is = log_there stripes.lanes.items i lane there in
    record {
      held = held;
      number = keeps.number;
      away = subst (λ (l : LogState). keeps.number < l.first) (sym is) keeps.away;
      kept = ap (λ (l : LogState). place_at l keeps.number) is ∙ keeps.kept;
    }

-- NONE OF A PAGE THAT IS NOT RESIDENT

-- of no page up to this one
pub none_more : (p : HybridLog) (number place : ℕ) → ((n : ℕ) → p.oldest ≤ n → n < number → place_kept (receipt_at p n) ≡ Some place → ⊥)
    → (place_kept (receipt_at p number) ≡ Some place → ⊥) → (n : ℕ) → p.oldest ≤ n → n < number + 1 → place_kept (receipt_at p n) ≡ Some place → ⊥
none_more p number place before here n from below is = elim (cases_lt n number) as (λ _. ⊥) [
  | inl lt ↦ before n from lt is
  | inr ge ↦ here (subst (λ (k : ℕ). place_kept (receipt_at p k) ≡ Some place) (omega (arith, ge, below)) is)
]

pub keeps_none : (lane : Lane) (number place : ℕ) → IsHybridLog (lane_log lane) → (lane_log lane).resident.oldest ≤ number
    → ((n : ℕ) → (lane_log lane).oldest ≤ n → n < number → place_kept (receipt_at (lane_log lane) n) ≡ Some place → ⊥) → KeepsAway lane place → ⊥
keeps_none lane number place fit all none keeps = elim (cases_lt keeps.number (lane_log lane).oldest) as (λ _. ⊥) [
  | inl low ↦ never (sym (away_place (lane_state lane) keeps.number low) ∙ keeps.kept)
  | inr live ↦
      none keeps.number live (omega (arith, keeps.away, all))
      (ap place_kept (at_is (lane_log lane) keeps.number live)
      ∙ sym (place_is (lane_log lane) (lane_beside lane) (numbered_of (lane_log lane) fit) keeps.number live) ∙ keeps.kept)
]
  where
    never : {x : ℕ} → Option.None ≡ Some x → ⊥
    never x = cc x

    away_place : (log : LogState) (n : ℕ) → n < log.oldest → place_at log n ≡ None
    away_place log n low =
        let t : nat_lt n log.oldest ≡ true = grind (arith, low) in
        ap (λ (b : Bool). if b then None else get_or log.kept (n - log.oldest) None) t

    at_is : (p : HybridLog) (n : ℕ) → p.oldest ≤ n → receipt_at p n ≡ receipt_of p n
    at_is p n live =
        let t : nat_lt n p.oldest ≡ false = grind (arith, live) in
        ap (λ (b : Bool). if b then None else receipt_of p n) t

-- a receipt of another place
pub other_place : (p : HybridLog) (number place : ℕ) (one : Kept) → Some one ≡ receipt_at p number → (place_of one ≡ place → ⊥)
    → place_kept (receipt_at p number) ≡ Some place → ⊥
other_place p number place one has other is = other (some_place (ap place_kept has ∙ is))
  where
    some_place : {a b : ℕ} → Option.Some a ≡ Some b → a ≡ b
    some_place x = cc x

-- no receipt
pub no_receipt : (p : HybridLog) (number place : ℕ) → None ≡ receipt_at p number → place_kept (receipt_at p number) ≡ Some place → ⊥
no_receipt p number place none is = never (ap place_kept none ∙ is)
  where
    never : {x : ℕ} → Option.None ≡ Some x → ⊥
    never x = cc x

pub keeper_not : (stripes : Stripes) (c place i : ℕ) (lane : Lane) → slice_get stripes.lanes.items i ≡ Some lane
    → (holds stripes.holders.items c i ≡ true → KeepsAway lane place → ⊥) → IsKeeper stripes c place i → ⊥
keeper_not stripes c place i lane there never keeper =
    let is = log_there stripes.lanes.items i lane there in
    never keeper.held
    (record {
      number = keeper.number;
      away = subst (λ (l : LogState). keeper.number < l.first) is keeper.away;
      kept = sym (ap (λ (l : LogState). place_at l keeper.number) is) ∙ keeper.kept;
    })

-- there is no such stripe
pub keeper_past : (stripes : Stripes) (c place i : ℕ) → length stripes.lanes.items ≤ i → IsKeeper stripes c place i → ⊥
keeper_past stripes c place i past keeper =
    never keeper.number (subst (λ (l : LogState). keeper.number < l.first) (past_log stripes.lanes.items i past) keeper.away)
  where
    never : (n : ℕ) → n < 0 → ⊥
    never n lt = omega (arith, lt)

    past_log : (lanes : List Lane) (i : ℕ) → length lanes ≤ i → log_at (map lane_state lanes) i ≡ new_log
    past_log [] i past = refl
    past_log (one ∷ lanes) zero past = absurd (omega (arith, past))
    past_log (one ∷ lanes) (suc i) past = past_log lanes i (omega (arith, past))

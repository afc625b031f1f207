-- A stripe's part that is lent for writing.
use Rattle.std.proofs.Common.{◌≡◌, ◌≢◌, ℕ, Bool, true, false, length-set, Option, Some, None, IsSome, refl, sym, ap, subst, ◌∙◌, inl, inr, if◌then◌else◌}
use Rattle.std.specs.Prelude.{slice_get}
use Rattle.std.specs.Vec.{with_item}
use Rattle.std.proofs.lemmas.Bool.{cases_eq}
use Rattle.world_model.specs.Enabled.{holds}
use Rattle.world_log.specs.Stripes.{IsFew, KeepsLanes, lent, part_in, queues_in, with_part, with_part_in}
use Rattle.world_log.specs.declared.lanes.Lane.{Lane}
use Rattle.world_log.specs.declared.stripes.Stripes.{Stripes}
use Rattle.world_log.proofs.GivenSteps.{get_other, get_set}

-- it is there
pub record IsThere {S : Type 0} (stripes : Stripes S) (i : ℕ) : Type 0 where
  pub held : holds stripes.holders.items stripes.acting i ≡ true
  pub lane : Lane S
  pub there : slice_get stripes.lanes.items i ≡ Some lane

pub is_there : {S : Type 0} (stripes : Stripes S) (i : ℕ) → IsSome (lent stripes i) → IsThere stripes i
is_there {S} stripes i some = by_holder (holds stripes.holders.items stripes.acting i) refl (slice_get stripes.lanes.items i) refl
  where
    never : IsSome {T = S} None → ⊥
    never x = cc x

    lent_is : (t : Bool) → holds stripes.holders.items stripes.acting i ≡ t → lent stripes i ≡ (if t then part_in (slice_get stripes.lanes.items i) else None)
    lent_is t is = ap (λ (b : Bool). if b then part_in (slice_get stripes.lanes.items i) else None) is

    by_holder : (t : Bool) → holds stripes.holders.items stripes.acting i ≡ t → (o : Option (Lane S)) → slice_get stripes.lanes.items i ≡ o → IsThere stripes i
    by_holder false away o there = absurd (never (subst IsSome (lent_is false away) some))
    by_holder true held None there = absurd (never (subst IsSome (lent_is true held ∙ ap part_in there) some))
    by_holder true held (Some lane) there = record { held = held; lane = lane; there = there }

module _ {S : Type 0} (stripes : Stripes S) (i : ℕ) (lane : Lane S) (held : holds stripes.holders.items stripes.acting i ≡ true)
    (there : slice_get stripes.lanes.items i ≡ Some lane) where
  -- the stripes with another part in its lane
  abbrev pub written : S → Stripes S
  written part = record stripes { lanes = with_item stripes.lanes i (record { shard = part; queues = lane.queues }) }

  pub writes : (part : S) → written part ≡ with_part stripes i part
  writes part = ap (λ (o : Option (Lane S)). with_part_in stripes i o part) (sym there)

  pub value_is : lent stripes i ≡ Some lane.shard
  value_is = ap (λ (b : Bool). if b then part_in (slice_get stripes.lanes.items i) else None) held ∙ ap part_in there

  pub written_is : (part : S) → lent (with_part stripes i part) i ≡ Some part
  written_is part = subst (λ (s : Stripes S). lent s i ≡ Some part) (writes part)
      (ap (λ (b : Bool). if b then part_in (slice_get (written part).lanes.items i) else None) held
      ∙ ap part_in (get_set stripes.lanes.items i (record { shard = part; queues = lane.queues }) lane there))

  pub others_are : (part : S) (other : ℕ) → other ≢ i → lent (with_part stripes i part) other ≡ lent stripes other
  others_are part other away = subst (λ (s : Stripes S). lent s other ≡ lent stripes other) (writes part)
      (ap (λ (o : Option (Lane S)). if holds stripes.holders.items stripes.acting other then part_in o else None)
      (get_other stripes.lanes.items i other (record { shard = part; queues = lane.queues }) away))

  pub few_is : IsFew stripes → (part : S) → IsFew (with_part stripes i part)
  few_is few part = subst IsFew (writes part) few

  pub keeps_is : (part : S) → KeepsLanes stripes (with_part stripes i part)
  keeps_is part = subst (KeepsLanes stripes) (writes part) (record {
    holders = refl;
    acting = refl;
    count = length-set stripes.lanes.items i (record { shard = part; queues = lane.queues });
    queues = λ j. elim (cases_eq j i) as (λ _. queues_in (slice_get (written part).lanes.items j) ≡ queues_in (slice_get stripes.lanes.items j)) [
      | inl here ↦
          ap (λ (k : ℕ). queues_in (slice_get (written part).lanes.items k)) here
          ∙ ap queues_in (get_set stripes.lanes.items i (record { shard = part; queues = lane.queues }) lane there)
          ∙ sym (ap (λ (k : ℕ). queues_in (slice_get stripes.lanes.items k)) here ∙ ap queues_in there)
      | inr other ↦ ap queues_in (get_other stripes.lanes.items i j (record { shard = part; queues = lane.queues }) other)
    ];
    others = λ j away.
        get_other stripes.lanes.items i j (record { shard = part; queues = lane.queues })
        (λ here. never (sym (ap (holds stripes.holders.items stripes.acting) here ∙ held) ∙ away));
  })
    where
      never : true ≡ false → ⊥
      never x = cc x

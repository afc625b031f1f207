-- What keys have, lane by lane.
use Rattle.std.proofs.Common.{◌≡◌, ℕ, zero, suc, Bool, true, false, List, [], ◌∷◌, length, set, Option, Some, None, refl, sym, ap, subst, ◌∙◌, if◌then◌else◌, IsSome, inl, inr}
use Rattle.std.specs.Prelude.{slice_get}
use Rattle.std.proofs.lemmas.Bool.{cases_eq}
use Rattle.words.specs.Store.{Bytes}
use Rattle.words.specs.Stripes.{stripe_of}
use Rattle.shards.specs.declared.shard.Shard.{Shard}
use Rattle.shards.specs.Shards.{shard_marks, shard_meaning, shard_store}
use Rattle.transact.specs.Tables.{Became, PartBecame, Change}
use Rattle.world_model.specs.declared.event.Event.{Event}
use Rattle.world_model.specs.Advancing.{When}
use Rattle.world_model.specs.Effects.{Works}
use Rattle.world_model.specs.Enabled.{holds, is_enabled_in}
use Rattle.world_model.specs.States.{State}
use Rattle.world_log.specs.Places.{Receipt, Shelves}
use Rattle.world_log.specs.PlanLaws.{IsStill, SameValues}
use Rattle.world_log.specs.Stripes.{KeepsOthers, lent, marks_in, part_in, store_in}
use Rattle.world_log.specs.WorldLogs.{Took, state_beside, state_of, with_values}
use Rattle.world_log.specs.declared.queues.Queues.{Queues}
use Rattle.world_log.specs.Types.{Lane, Stripes}
use Rattle.world_log.specs.declared.logs.WorldLog.{WorldLog}
use Rattle.world_log.proofs.LaneSteps.{TookBeside, with_lane, with_both}

-- A LANE THAT KEEPS ITS VALUES

pub record KeepsValues (old new : Lane) : Type 0 where
  pub store : shard_store new.shard ≡ shard_store old.shard
  pub marks : shard_marks new.shard ≡ shard_marks old.shard

some_lane : {a b : Lane} → Option.Some a ≡ Some b → a ≡ b
some_lane is = cc is

store_set : (lanes : List Lane) (i j : ℕ) (lane new : Lane) → slice_get lanes i ≡ Some lane → shard_store new.shard ≡ shard_store lane.shard
    → store_in (slice_get (set lanes i new) j) ≡ store_in (slice_get lanes j)
store_set [] i j lane new there same = refl
store_set (one ∷ lanes) zero zero lane new there same = same ∙ ap (λ (l : Lane). shard_store l.shard) (sym (some_lane there))
store_set (one ∷ lanes) zero (suc j) lane new there same = refl
store_set (one ∷ lanes) (suc i) zero lane new there same = refl
store_set (one ∷ lanes) (suc i) (suc j) lane new there same = store_set lanes i j lane new there same

marks_set : (lanes : List Lane) (i j : ℕ) (lane new : Lane) → slice_get lanes i ≡ Some lane → shard_marks new.shard ≡ shard_marks lane.shard
    → marks_in (slice_get (set lanes i new) j) ≡ marks_in (slice_get lanes j)
marks_set [] i j lane new there same = refl
marks_set (one ∷ lanes) zero zero lane new there same = same ∙ ap (λ (l : Lane). shard_marks l.shard) (sym (some_lane there))
marks_set (one ∷ lanes) zero (suc j) lane new there same = refl
marks_set (one ∷ lanes) (suc i) zero lane new there same = refl
marks_set (one ∷ lanes) (suc i) (suc j) lane new there same = marks_set lanes i j lane new there same

pub lane_values : (store : WorldLog) (i : ℕ) (lane new : Lane) → slice_get store.stripes.lanes.items i ≡ Some lane → KeepsValues lane new
    → SameValues store.stripes (with_lane store i new).stripes
lane_values store i lane new there keeps = record {
  stores = λ k j. store_set store.stripes.lanes.items i j lane new there keeps.store k;
  marks = λ k key session. marks_set store.stripes.lanes.items i (stripe_of (length store.stripes.holders.items) key) lane new there keeps.marks k key session;
}

-- what stands beside a log may change
pub beside_values : (store : WorldLog) (i : ℕ) (lane : Lane) (queues : Queues) → slice_get store.stripes.lanes.items i ≡ Some lane
    → SameValues store.stripes (with_lane store i (record { shard = lane.shard; queues = queues })).stripes
beside_values store i lane queues there =
    lane_values store i lane (record { shard = lane.shard; queues = queues }) there (record { store = refl; marks = refl })

-- and the device
pub both_values : (store : WorldLog) (i : ℕ) (lane new : Lane) (device : Shelves) → slice_get store.stripes.lanes.items i ≡ Some lane → KeepsValues lane new
    → SameValues store.stripes (with_both store i new device).stripes
both_values store i lane new device there keeps =
    let values = lane_values store i lane new there keeps in record { stores = values.stores; marks = values.marks }

pub no_values : (store : WorldLog) → SameValues store.stripes store.stripes
no_values store = record { stores = refl; marks = refl }

-- the plain state, where the values are the same
pub values_state : (rest : State) (old new : WorldLog) → SameValues old.stripes new.stripes → state_beside (with_values rest old.stripes) new ≡ state_of rest new
values_state rest old new same =
    λ j. state_beside (let s : State = record rest { stores = sym same.stores j; marks = sym same.marks j } in s) new

-- a step beside the values is one of the plain state, where the values are the same
pub took_values_with : (rest : State) (e : Event) (old new : WorldLog) → SameValues old.stripes new.stripes
    → TookBeside (with_values rest old.stripes) e old new → Took rest e old new
took_values_with rest e old new same took =
    let is : state_beside (with_values rest old.stripes) new ≡ state_of rest new =
    λ j. state_beside (let s : State = record rest { stores = sym same.stores j; marks = sym same.marks j } in s) new in
    subst (λ (s : State). When (is_enabled_in (state_of rest old) e) (Works (state_of rest old) e s) (s ≡ state_of rest old)) is took

pub took_values : (rest : State) (e : Event) (old new : WorldLog) → SameValues old.stripes new.stripes
    → ((other : State) → TookBeside other e old new) → Took rest e old new
took_values rest e old new same took = took_values_with rest e old new same (took (with_values rest old.stripes))

-- PARTS THAT BECAME WHAT NO WRITE MAKES OF THEM

module _ (old new : Stripes) (change : Change) (keeps : KeepsOthers old new) (still : IsStill change)
    (became : Became (shard_meaning ⊥) (length old.holders.items) [] change (lent old) (lent new)) where
  held_part : (i : ℕ) (t : Bool) → holds old.holders.items old.acting i ≡ t → (a b : Option Lane) → slice_get old.lanes.items i ≡ a
      → slice_get new.lanes.items i ≡ b
      → ((key : Bytes) → store_in b key ≡ store_in a key) × ((key : Bytes) (session : ℕ) → marks_in b key session ≡ marks_in a key session)
  held_part i false away a b is new_is =
      let same : b ≡ a = sym new_is ∙ keeps.others i away ∙ is in
      (λ key. ap (λ (o : Option Lane). store_in o key) same, λ key session. ap (λ (o : Option Lane). marks_in o key session) same)
  held_part i true held a None is new_is = by_old a is
    where
      lent_is : (a : Option Lane) → slice_get old.lanes.items i ≡ a → lent old i ≡ part_in a
      lent_is a is = ap (λ (t : Bool). if t then part_in (slice_get old.lanes.items i) else None) held ∙ ap part_in is

      new_none : lent new i ≡ None
      new_none =
          ap (λ (t : Bool). if t then part_in (slice_get new.lanes.items i) else None)
          ((λ j. holds ((keeps.holders j).items) (keeps.acting j) i) ∙ held) ∙ ap part_in new_is

      by_old : (a : Option Lane) → slice_get old.lanes.items i ≡ a
          → ((key : Bytes) → store_in None key ≡ store_in a key) × ((key : Bytes) (session : ℕ) → marks_in None key session ≡ marks_in a key session)
      by_old None is = (λ key. refl, λ key session. refl)
      by_old (Some one) is =
          let there = became.there i (subst IsSome (sym (lent_is (Some one) is)) refl) in absurd (none_is (subst IsSome new_none there))
        where
          none_is : IsSome {T = Shard Receipt} None → ⊥
          none_is x = cc x
  held_part i true held a (Some lane) is new_is =
      let lent_new : lent new i ≡ Some lane.shard =
      ap (λ (t : Bool). if t then part_in (slice_get new.lanes.items i) else None)
      ((λ j. holds ((keeps.holders j).items) (keeps.acting j) i) ∙ held) ∙ ap part_in new_is in
      let was = became.was i lane.shard lent_new in
      by_old a is was.0 was.1 was.2
    where
      by_old : (a : Option Lane) → slice_get old.lanes.items i ≡ a → (part : Shard Receipt) → lent old i ≡ Some part
          → PartBecame (shard_meaning ⊥) (length old.holders.items) i [] change part lane.shard
          → ((key : Bytes) → store_in (Some lane) key ≡ store_in a key)
          × ((key : Bytes) (session : ℕ) → marks_in (Some lane) key session ≡ marks_in a key session)
      by_old None is part there done =
          absurd (never (sym (ap (λ (t : Bool). if t then part_in (slice_get old.lanes.items i) else None) held ∙ ap part_in is) ∙ there))
        where
          never : Option.None ≡ Some part → ⊥
          never x = cc x
      by_old (Some one) is part there done =
          let same : one.shard ≡ part = some_part (sym (ap (λ (t : Bool). if t then part_in (slice_get old.lanes.items i) else None) held ∙ ap part_in is) ∙ there) in (
            (λ key. (elim (cases_eq (stripe_of (length old.holders.items) key) i) as (λ _. shard_store lane.shard key ≡ shard_store part key) [
              | inl at ↦ done.here key at
              | inr away ↦ done.away key away
            ]) ∙ ap (λ (p : Shard Receipt). shard_store p key) (sym same)),
            (λ key session. (elim (cases_eq (stripe_of (length old.holders.items) key) i) as (λ _. shard_marks lane.shard key session ≡ shard_marks part key session) [
              | inl at ↦ done.marks key session at ∙ still key session (shard_marks part key session)
              | inr away ↦ done.aside key session away
            ]) ∙ ap (λ (p : Shard Receipt). shard_marks p key session) (sym same)),
          )
        where
          some_part : {a b : Shard Receipt} → Option.Some a ≡ Some b → a ≡ b
          some_part x = cc x

  pub values_same : SameValues old new
  values_same = record {
    stores = λ k i key. (held_part i _ refl _ _ refl refl).0 key k;
    marks =
        λ k key session. (
        ap (λ (n : ℕ). marks_in (slice_get new.lanes.items (stripe_of n key)) key session) (ap (λ h. length h.items) keeps.holders)
        ∙ (held_part (stripe_of (length old.holders.items) key) _ refl _ _ refl refl).1 key session) k;
  }

-- The laws of the crates below that the world's proofs rest on, as those crates state them.
use Rattle.std.specs.Prelude.{ℕ, ◌≡◌, ◌<◌, ◌≤◌, List, [], None, get_or, length, true, false}
use Rattle.words.specs.declared.history.Entry.{Entry}
use Rattle.words.specs.declared.reply.Reply.{Reply}
use Rattle.words.specs.Store.{Bytes, Store, Write, writes_key}
use Rattle.words.specs.Bounds.{IsStoreBounded}
use Rattle.words.specs.Locality.{IsNoneOf}
use Rattle.words.specs.History.{History, Legal, after, keys_named, writes_of}
use Rattle.words.specs.Session.{Asked}
use Rattle.hybrid.specs.Growth.{GrowthLaws}
use Rattle.transact.specs.declared.call.Call.{Call}
use Rattle.world_model.specs.declared.event.Event.{Event}
use Rattle.world_log.specs.Given.{GivenLaws}
use Rattle.world_log.specs.PlanLaws.{ColdLaw, OpeningLaw, ReadLaws, RoomLaws, ValueLaw, WaitLaw}
use Rattle.world_model.specs.Planning.{taken}
use Rattle.world_model.specs.Rooms.{StepsAll}
use Rattle.world_model.specs.Enabled.{is_enabled}
use Rattle.world_model.specs.Resting.{IsAtRest, IsOfCall, IsOrderly, events_left, rests}
use Rattle.world_model.specs.States.{State, client, start, stripe_count}
use Rattle.world_model.specs.Places.{NoneReleased}
use Rattle.world_model.specs.Planned.{IsNoCommitOf, IsPlanned}
use Rattle.world_model.specs.Soundness.{IsSound}
use Rattle.world_model.specs.Told.{Headline}
use Rattle.world_model.specs.Turns.{Turn, Turns}

-- Events in the plain world, as `world_model` states their laws.
pub record TurnLaws : Type 0 where
  pub order_start : (stripes clients frames limit : ℕ) → 1 ≤ stripe_count (start stripes clients frames limit)
      → IsOrderly (start stripes clients frames limit)
  pub start : (stripes clients frames limit : ℕ) → IsSound (start stripes clients frames limit)
  pub headline : (state : State) → IsSound state → Headline state
  pub places : (state : State) → IsSound state → NoneReleased state
  pub order : (before : State) (events : List Event) (after : State) → Turns before events after → IsOrderly before → IsOrderly after
  pub moves : (state : State) (c : ℕ) → IsOrderly state → c < length state.clients → rests state c ≡ false
      → (e : Event) × IsOfCall e × (is_enabled state e ≡ true)
  pub falls : (before : State) (e : Event) (after : State) → IsOfCall e → is_enabled before e ≡ true → IsSound before
      → IsOrderly before → Turn before e after → events_left after < events_left before
  pub rested : (state : State) (c : ℕ) → Headline state → c < length state.clients → rests state c ≡ true → IsAtRest state c
  pub rooms : (before : State) (stripes : List ℕ) (after : State) → StepsAll before stripes after → IsSound before → IsSound after
  pub taken : (before : State) (c i : ℕ) (stripes : List ℕ) (after : State) → IsSound before → c < length before.clients
      → get_or before.holders i None ≡ None → (client before c).due ≡ []
      → StepsAll (taken before c (client before c) i) stripes after → NoneReleased after
  pub sound : (before : State) (events : List Event) (after : State) → Turns before events after → IsSound before → IsSound after
  pub planned : (before : State) (event : Event) (after : State) (c : ℕ) (call : Call) (asked : Asked) (reply : Reply) (writes : List Write)
      → Turn before event after → IsNoCommitOf c event → IsSound before
      → IsPlanned before c call asked reply writes → IsPlanned after c call asked reply writes

-- Plans over the stripes, as `world_log` and `hybrid` state their laws.
pub record PlanLaws : Type 0 where
  pub rooms : RoomLaws
  pub opening : OpeningLaw
  pub values_same : ValueLaw
  pub reads : ReadLaws
  pub given : GivenLaws
  pub cold : ColdLaw
  pub waits : WaitLaw
  pub growth : GrowthLaws

-- Values and keys, as `words` states their laws.
pub record HistoryLaws : Type 0 where
  pub short : (history : History) → Legal history → IsStoreBounded (after history)
  pub named : (store : Store) (entry : Entry) (key : Bytes) → IsNoneOf (keys_named entry.operation) key
      → writes_key (writes_of store entry) key ≡ false

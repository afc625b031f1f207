-- How clients come to rest.
use Rattle.std.proofs.Common.{◌≡◌, ◌∙◌, ℕ, zero, suc, ◌+◌, ◌<◌, ◌≤◌, Bool, true, false, ◌&&◌, ◌||◌, not, List, [], ◌∷◌, ◌++◌, length, get_or, Option, Some, None, is_none, is_some, refl, sym, ap, subst, arith}
use Rattle.std.proofs.lemmas.Bool.{eqb-true, ltb-true}
use Rattle.std.proofs.lemmas.List.{length-map}
use mathlib.Core.Logic.{dite}
use native.Mathlib.Decide.{ℕ_discrete}
use Rattle.world_model.specs.Actors.{actor}
use Rattle.world_model.specs.declared.event.Event.{Event}
use Rattle.world_model.specs.declared.event.Event.TheVariants as event
use Rattle.world_model.specs.Enabled.{holds, is_enabled, is_enabled_for, is_enabled_of, is_free, is_number, are_none, next_stripe}
use Rattle.world_model.specs.Resting.{AreOfCalls, Finishes, IsAtRest, IsOfCall, IsOrderly, rests}
use Rattle.world_model.specs.States.{ClientState, State, client, open_call}
use Rattle.world_model.specs.Told.{Headline}
use Rattle.world_model.specs.Turns.{Turn, Turns}
use Rattle.world.specs.Desks.{client_of}
use Rattle.world.specs.Laws.{TurnLaws}
use Rattle.world.specs.Tables.{state_of}
use Rattle.world.specs.declared.world.World.{World}
use Rattle.world.specs.Still.{GivesNone, IsStill, TakesNone}

both : (a b : Bool) → (a && b) ≡ true → (a ≡ true) × (b ≡ true)
both true b is = (refl, is)
both false b is = cc

clash : (t : Bool) → t ≡ true → t ≡ false → ⊥
clash t one other = cc (sym one ∙ other)

some_number : {a b : ℕ} → Option.Some a ≡ Some b → a ≡ b
some_number e = cc e

-- ONE CLIENT

-- where it may not commit, fetch, take or give, no event of its call is enabled
pub is_still : (state : State) (c : ℕ) → is_enabled_for state c (client state c) (event.Commit c) ≡ false
    → is_enabled_for state c (client state c) (event.Fetch c) ≡ false → TakesNone state c → GivesNone state c → IsStill state c
is_still state c commits fetches takes gives (event.Commit d) of own = commits
is_still state c commits fetches takes gives (event.Fetch d) of own = fetches
is_still state c commits fetches takes gives (event.Take d i) of own = takes i
is_still state c commits fetches takes gives (event.Give d i) of own = gives i
is_still state c commits fetches takes gives _ of own = absurd of

-- it takes none where no stripe is the next one, or where that one may not be taken
pub takes_nothing : (state : State) (c : ℕ) → next_stripe state c (open_call (client state c).phase) ≡ None → TakesNone state c
takes_nothing state c is i =
    ap (λ (o : Option ℕ). is_number i o && (is_free state i && are_none (client state c).due)) is

pub takes_not : (state : State) (c j : ℕ) → next_stripe state c (open_call (client state c).phase) ≡ Some j
    → is_enabled_for state c (client state c) (event.Take c j) ≡ false → TakesNone state c
takes_not state c j is may i =
    elim (is_number i (next_stripe state c (open_call (client state c).phase)))
    as (λ t. is_number i (next_stripe state c (open_call (client state c).phase)) ≡ t → (t && (is_free state i && are_none (client state c).due)) ≡ false) [
      | true ↦ λ here.
          let same : j ≡ i = is_same j i (sym (ap (is_number i) is) ∙ here) in
          let one : is_number j (next_stripe state c (open_call (client state c).phase)) ≡ true =
          subst (λ (k : ℕ). is_number k (next_stripe state c (open_call (client state c).phase)) ≡ true) (sym same) here in
          subst (λ (k : ℕ). (is_free state k && are_none (client state c).due) ≡ false) same
          (sym (ap (λ (t : Bool). t && (is_free state j && are_none (client state c).due)) one) ∙ may)
      | false ↦ λ other. refl
    ] refl
  where
    is_same : (a b : ℕ) → is_number b (Some a) ≡ true → a ≡ b
    is_same a b is = eqb-true a b is

-- it gives none back that is past the end
past_none : (holders : List (Option ℕ)) (c i : ℕ) → length holders < i + 1 → holds holders c i ≡ false
past_none [] c i past = refl
past_none (first ∷ holders) c zero past = absurd (omega (arith, past))
past_none (first ∷ holders) c (suc i) past = past_none holders c i (omega (arith, past))

pub gives_past : (state : State) (c i : ℕ) → length state.holders < i + 1 → is_enabled_for state c (client state c) (event.Give c i) ≡ false
gives_past state c i past =
    ap (λ (t : Bool). t && (is_none (open_call (client state c).phase) || not (are_none (client state c).due))) (past_none state.holders c i past)

-- ALL CLIENTS

-- whose an event of a call is
acts : (e : Event) → IsOfCall e → (c : ℕ) × (actor e ≡ Some c)
acts (event.Commit d) of = (d, refl)
acts (event.Fetch d) of = (d, refl)
acts (event.Take d i) of = (d, refl)
acts (event.Give d i) of = (d, refl)
acts _ of = absurd of

no_move : (state : State) → ((c : ℕ) → c < length state.clients → IsStill state c) → (e : Event) → IsOfCall e → is_enabled state e ≡ true → ⊥
no_move state still e of enabled =
    let own = acts e of in
    let test = both _ _ (sym (ap (is_enabled_of state e) own.1) ∙ enabled) in
    clash (is_enabled_for state own.0 (client state own.0) e) test.1 (still own.0 (ltb-true _ _ test.0) e of own.1)

-- Where no event of a call is enabled, each client rests.
pub all_rest : TurnLaws → (state : State) → IsOrderly state → Headline state → ((c : ℕ) → c < length state.clients → IsStill state c)
    → (c : ℕ) → c < length state.clients → IsAtRest state c
all_rest laws state order headline still c below =
    elim (rests state c) as (λ t. rests state c ≡ t → IsAtRest state c) [
      | true ↦ λ is. laws.rested state c headline below is
      | false ↦ λ is.
          let move = laws.moves state c order below is in
          absurd (no_move state still move.0 move.1 move.2)
    ] refl

-- those that were looked at, and one more
pub still_more : (state : State) (k : ℕ) → ((c : ℕ) → c < k → IsStill state c) → IsStill state k → (c : ℕ) → c < k + 1 → IsStill state c
still_more state k before here c below =
    dite (ℕ_discrete c k) (λ same. subst (IsStill state) (sym same) here) (λ differ. before c (omega (arith, below, differ)))

-- all clients were looked at
pub looked_at : (world : World) (d end at : ℕ) → end ≡ length world.members.items → end ≤ at → d < length (state_of world).clients → d < at
unfolding state_of
looked_at world d end at is past below = omega (arith, is, past, below, length-map world.members.items client_of)

-- EVENTS SO FAR

-- events of calls lead from one state to another
abbrev pub Moved : State → State → Type 0
Moved before after = (events : List Event) × AreOfCalls events × Turns before events after

turns_more : (before : State) (events : List Event) (mid : State) (e : Event) (after : State) → Turns before events mid → Turn mid e after
    → Turns before (events ++ e ∷ []) after
turns_more before [] mid e after turns turn = (after, subst (λ (state : State). Turn state e after) turns turn, refl)
turns_more before (first ∷ events) mid e after turns turn = (turns.0, turns.1, turns_more turns.0 events mid e after turns.2 turn)

of_calls_more : (events : List Event) (e : Event) → AreOfCalls events → IsOfCall e → AreOfCalls (events ++ e ∷ [])
of_calls_more [] e all of = (of, tt)
of_calls_more (first ∷ events) e all of = (all.0, of_calls_more events e all.1 of)

pub moved_more : (before mid : State) (e : Event) (after : State) → Moved before mid → IsOfCall e → Turn mid e after → Moved before after
moved_more before mid e after so of turn =
    (so.0 ++ e ∷ [], of_calls_more so.0 e so.1 of, turns_more before so.0 mid e after so.2 turn)

pub moved_none : (before : State) → Moved before before
moved_none before = ([], tt, refl)

pub finished : (before after : State) → Moved before after → ((c : ℕ) → c < length after.clients → IsAtRest after c)
    → (events : List Event) × Finishes before events after
finished before after so rest = (so.0, record { of_calls = so.1; turns = so.2; rest = rest })

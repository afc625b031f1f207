-- No client waits for good: where one does not rest, an event of a call is enabled.
use Rattle.std.proofs.Common.{◌≡◌, ◌⊎◌, ℕ, zero, suc, ◌-◌, ◌<◌, ◌≤◌, Bool, true, false, ◌&&◌, ◌||◌, not, List, [], ◌∷◌, length, get_or, Option, Some, None, is_none, is_some, refl, sym, ap, ap₂, ◌∙◌, inl, inr, arith, eq-eqb}
use Rattle.std.proofs.lemmas.Bool.{lt-ltb}
use Rattle.world_model.specs.Actors.{actor}
use Rattle.world_model.specs.declared.event.Event.{Event}
use Rattle.world_model.specs.declared.event.Event.TheVariants.{Take, Commit, Give, Fetch}
use Rattle.world_model.specs.States.{State, client, stripe_count, open_call}
use Rattle.world_model.specs.Enabled.{is_number, holds, holds_none, are_none, next_stripe, is_enabled, is_enabled_for, is_enabled_of}
use Rattle.world_model.specs.Resting.{IsOrderly, IsOfCall, rests}
use Rattle.world_model.proofs.Holding.{same_eqb}

-- an event of a call is enabled
abbrev pub Moves : State → Type 0
Moves state = (e : Event) × IsOfCall e × (is_enabled state e ≡ true)

both_true : (a b : Bool) → a ≡ true → b ≡ true → (a && b) ≡ true
both_true a b one other = rw (one, other) refl

-- an event of a client that is enabled for it
can : (state : State) (c : ℕ) (e : Event) → actor e ≡ Some c → c < length state.clients → is_enabled_for state c (client state c) e ≡ true
    → is_enabled state e ≡ true
can state c e is below allowed =
    ap (is_enabled_of state e) is ∙ ap₂ (λ (a b : Bool). a && b) (lt-ltb c (length state.clients) below) allowed

-- WHO HOLDS A STRIPE

held_is : (c : ℕ) (holder : Option ℕ) → is_number c holder ≡ true → holder ≡ Some c
held_is c None is = cc is
held_is c (Some m) is = ap (λ (k : ℕ). Option.Some k) (same_eqb m c is)

held_by : (c : ℕ) (holder : Option ℕ) → holder ≡ Some c → is_number c holder ≡ true
held_by c holder is = ap (is_number c) is ∙ eq-eqb c c refl

held_within : (holders : List (Option ℕ)) (c i : ℕ) → holds holders c i ≡ true → i < length holders
held_within [] c i is = absurd (cc is)
held_within (first ∷ holders) c zero is = omega arith
held_within (first ∷ holders) c (suc i) is = omega (arith, held_within holders c i is)

held_some : (holders : List (Option ℕ)) (c : ℕ) → holds_none c holders ≡ false → (i : ℕ) × (holds holders c i ≡ true)
held_some [] c is = absurd (cc is)
held_some (first ∷ holders) c is =
    elim (is_number c first) as (λ t. is_number c first ≡ t → (not t && holds_none c holders) ≡ false → (i : ℕ) × (holds (first ∷ holders) c i ≡ true)) [
      | true ↦ λ own none. (0, own)
      | false ↦ λ own none.
          let more = held_some holders c none in
          (suc more.0, more.1)
    ] refl is

option_cases : {A : Type 0} (o : Option A) → (o ≡ None) ⊎ ((a : A) × (o ≡ Some a))
option_cases None = inl refl
option_cases (Some a) = inr (a, refl)

bool_cases : (t : Bool) → (t ≡ true) ⊎ (t ≡ false)
bool_cases true = inl refl
bool_cases false = inr refl

-- WHO GOES ON

-- One whose call is opened, and who reads nothing, takes the next stripe, or commits; or another holds that stripe.
waits : (state : State) (c : ℕ) → c < length state.clients → is_some (open_call (client state c).phase) ≡ true
    → are_none (client state c).due ≡ true
    → ((j d : ℕ) → next_stripe state c (open_call (client state c).phase) ≡ Some j → holds state.holders d j ≡ true → Moves state)
    → Moves state
waits state c below opened none others =
    elim (option_cases (next_stripe state c (open_call (client state c).phase))) as (λ _. Moves state) [
      | inl last ↦ (
        Commit c,
        tt,
        can state c (Commit c) refl below
            (both_true _ _ opened (both_true _ _ (ap is_none last) none)),
      )
      | inr next ↦
          elim (option_cases (get_or state.holders next.0 None)) as (λ _. Moves state) [
            | inl free ↦ (
              Take c next.0,
              tt,
              can state c (Take c next.0) refl below
                  (both_true _ _ (held_by next.0 _ next.1) (both_true _ _ (ap is_none free) none)),
            )
            | inr held ↦ others next.0 held.0 next.1 (held_by held.0 (get_or state.holders next.0 None) held.1)
          ]
    ]

gives : (state : State) (c i : ℕ) → c < length state.clients → holds state.holders c i ≡ true
    → (is_none (open_call (client state c).phase) || not (are_none (client state c).due)) ≡ true → Moves state
gives state c i below held may = (Give c i, tt, can state c (Give c i) refl below (both_true _ _ held may))

-- whether there is one or none
is_other : {A : Type 0} (o : Option A) → is_none o ≡ false → is_some o ≡ true
is_other None is = cc is
is_other (Some a) is = refl

none_or : (t : Bool) → (t || not false) ≡ true
none_or true = refl
none_or false = refl

-- Of the clients that hold stripes, one goes on. If the client waits, it waits for a stripe above each that it holds, whose holder is looked
-- at next; stripes do not rise for good.
someone : (count : ℕ) (state : State) → IsOrderly state → (i c : ℕ) → holds state.holders c i ≡ true → stripe_count state - i ≤ count → Moves state
someone zero state order i c held few = absurd (omega (arith, held_within state.holders c i held, few))
someone (suc count) state order i c held few =
    let below : c < length state.clients = order.known i c (held_is c _ held) in
    elim (bool_cases (is_none (open_call (client state c).phase))) as (λ _. Moves state) [
      | inl idle ↦ gives state c i below held (ap (λ (t : Bool). t || not (are_none (client state c).due)) idle)
      | inr opened ↦
          elim (bool_cases (are_none (client state c).due)) as (λ _. Moves state) [
            | inl none ↦
                waits state c below (is_other _ opened) none
                (λ j d next theirs.
                someone count state order j d theirs
                (omega (arith, few, order.rising c i j none next held, held_within state.holders c i held)))
            | inr due ↦
                gives state c i below held
                (ap (λ (t : Bool). is_none (open_call (client state c).phase) || not t) due ∙ none_or (is_none (open_call (client state c).phase)))
          ]
    ]

-- No client is stuck: where one does not rest, an event of a call is enabled, its own or another's.
pub none_stuck : (state : State) (c : ℕ) → IsOrderly state → c < length state.clients → rests state c ≡ false → Moves state
none_stuck state c order below busy =
    elim (bool_cases (holds_none c state.holders)) as (λ _. Moves state) [
      | inr some ↦
          let held = held_some state.holders c some in
          someone (stripe_count state) state order held.0 c held.1 (omega arith)
      | inl none ↦
          let opened : is_none (open_call (client state c).phase) ≡ false = first_false (is_none (open_call (client state c).phase)) _ none busy in
          elim (bool_cases (are_none (client state c).due)) as (λ _. Moves state) [
            | inl read ↦
                waits state c below (is_other _ opened) read (λ j d next theirs. someone (stripe_count state) state order j d theirs (omega arith))
            | inr due ↦ (Fetch c, tt, can state c (Fetch c) refl below (both_true _ _ (ap (λ (t : Bool). not t) due) none))
          ]
    ]
  where
    first_false : (a b : Bool) → b ≡ true → (a && b) ≡ false → a ≡ false
    first_false true b is both = cc (sym is ∙ both)
    first_false false b is both = refl

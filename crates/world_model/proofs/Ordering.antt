-- Stripes are taken in rising order, whatever events there are.
use Rattle.std.proofs.Common.{◌≡◌, ◌≢◌, ◌⊎◌, ℕ, zero, suc, ◌<◌, ◌≤◌, Bool, true, false, ◌&&◌, ◌||◌, not, List, [], ◌∷◌, length, get_or, set, replicate, Option, Some, None, is_none, is_some, refl, sym, ap, ◌∙◌, subst, inl, inr, arith, if◌then◌else◌, length-set}
use Rattle.std.proofs.lemmas.Bool.{ltb-true}
use Rattle.std.proofs.lemmas.List.{get_or-set_same, get_or-set_other}
use mathlib.Core.Logic.{dite}
use native.Mathlib.Decide.{ℕ_discrete}
use Rattle.words.specs.Store.{Bytes, Write}
use Rattle.words.specs.History.{Pair}
use Rattle.words.specs.Session.{Asked}
use Rattle.transact.specs.declared.call.Call.{Call}
use Rattle.transact.specs.Calls.{asked_of, call_keys}
use Rattle.transact.specs.Submits.{stripes_asked}
use Rattle.connection.specs.Clients.{Progress}
use Rattle.world_model.specs.Actors.{actor}
use Rattle.world_model.specs.declared.event.Event.{Event}
use Rattle.world_model.specs.declared.event.Event.TheVariants.{Piece, Close, Take, Commit, Give, Fetch}
use Rattle.world_model.specs.States.{Phase, Serving, Calling, Leaving, Left, Ended, ClientState, State, fresh, start, client, stripe_count, open_call, with_client}
use Rattle.world_model.specs.Enabled.{is_number, holds, holds_none, are_none, first_missing, next_stripe, is_enabled_for, is_enabled_of}
use Rattle.world_model.specs.Advancing.{When, Goes, is_idle}
use Rattle.world_model.specs.Planning.{Plans, Names, MakesRoom, MeetsFull, PlansFor, asked_by, stay_begun, taken, Takes}
use Rattle.world_model.specs.Commits.{Told, Refused, Commits}
use Rattle.world_model.specs.Effects.{Does, fed, heard, fetched, given}
use Rattle.world_model.specs.Turns.{DoesAndGoes, Turns}
use Rattle.world_model.specs.Resting.{IsOrderly}
use Rattle.world_model.proofs.Holding.{when_cases, both, none_is, apart_eqb, same_eqb, held_by_one, holds_set, missing_same}
use Rattle.world_model.proofs.Else.{IsElse, steps_else, works_else}
use Rattle.world_model.proofs.Rising.{with_rising, with_below, next_below, next_later, holds_taken}

-- ONE CLIENT'S STRIPES

-- those that it holds, where its call is open and has no pages to fetch, are below the one that it takes next
abbrev pub IsInOrder : State → ℕ → ClientState → Type 0
IsInOrder state c peer =
    (i j : ℕ) → are_none peer.due ≡ true → next_stripe state c (open_call peer.phase) ≡ Some j → holds state.holders c i ≡ true → i < j

pub next_same : (old new : State) (c : ℕ) (o : Option Call) → stripe_count new ≡ stripe_count old
    → ((j : ℕ) → holds new.holders c j ≡ holds old.holders c j) → next_stripe new c o ≡ next_stripe old c o
next_same old new c None count same = refl
next_same old new c (Some call) count same =
    ap (λ (n : ℕ). first_missing new.holders c (stripes_asked n call)) count
    ∙ missing_same old.holders new.holders c (stripes_asked (stripe_count old) call) same

in_order_as : (old new : State) (c : ℕ) (was peer : ClientState) → stripe_count new ≡ stripe_count old
    → ((j : ℕ) → holds new.holders c j ≡ holds old.holders c j) → open_call peer.phase ≡ open_call was.phase → peer.due ≡ was.due
    → IsInOrder old c was → IsInOrder new c peer
in_order_as old new c was peer count same calls due order i j none next held =
    order i j (sym (ap are_none due) ∙ none)
    (sym (next_same old new c (open_call was.phase) count same) ∙ sym (ap (next_stripe new c) calls) ∙ next) (sym (same i) ∙ held)

pub none_held : (holders : List (Option ℕ)) (c i : ℕ) → holds_none c holders ≡ true → holds holders c i ≡ false
none_held [] c i none = refl
none_held (holder ∷ holders) c zero none =
    elim (is_number c holder) as (λ t. (not t && holds_none c holders) ≡ true → t ≡ false) [
      | true ↦ λ never. cc never
      | false ↦ λ is. refl
    ] none
none_held (holder ∷ holders) c (suc i) none = none_held holders c i (both _ _ none).1

clash : (t : Bool) → t ≡ true → t ≡ false → ⊥
clash t one other = cc (sym one ∙ other)

in_order_none : (state : State) (c : ℕ) (peer : ClientState) → holds_none c state.holders ≡ true → IsInOrder state c peer
in_order_none state c peer is i j none next held = absurd (clash (holds state.holders c i) held (none_held state.holders c i is))

in_order_last : (state : State) (c : ℕ) (peer : ClientState) → next_stripe state c (open_call peer.phase) ≡ None → IsInOrder state c peer
in_order_last state c peer is i j none next held = absurd (cc (sym is ∙ next))

pub next_open : (state : State) (c : ℕ) (o : Option Call) (j : ℕ) → next_stripe state c o ≡ Some j → is_some o ≡ true
next_open state c None j is = cc is
next_open state c (Some call) j is = refl

in_order_idle : (state : State) (c : ℕ) (peer : ClientState) → open_call peer.phase ≡ None → IsInOrder state c peer
in_order_idle state c peer is = in_order_last state c peer (ap (next_stripe state c) is)

pub next_within : (state : State) (c : ℕ) (o : Option Call) (j : ℕ) → 1 ≤ stripe_count state → next_stripe state c o ≡ Some j
    → j < stripe_count state
next_within state c None j some is = absurd (cc is)
next_within state c (Some call) j some is =
    next_below state.holders c (stripe_count state) (stripes_asked (stripe_count state) call) j
    (with_below (stripe_count state) [] (call_keys call) some tt) is

-- A STATE

-- clients and holders are the same
else_order : (old new : State) → new.clients ≡ old.clients → new.holders ≡ old.holders → IsOrderly old → IsOrderly new
else_order old new clients holders order = record {
  some = subst (λ (all : List (Option ℕ)). 1 ≤ length all) (sym holders) order.some;
  known = λ i d is.
      subst (λ (all : List ClientState). d < length all) (sym clients)
      (order.known i d (sym (ap (λ (all : List (Option ℕ)). get_or all i None) holders) ∙ is));
  rising = λ c.
      subst (λ (all : List ClientState). IsInOrder new c (get_or all c fresh)) (sym clients)
      (in_order_as old new c (client old c) (client old c) (ap (λ (all : List (Option ℕ)). length all) holders)
      (λ j. ap (λ (all : List (Option ℕ)). holds all c j) holders) refl refl (order.rising c));
}

-- a client is set
set_order : (before after : State) (c : ℕ) (new : ClientState) → IsOrderly before → c < length before.clients
    → after.clients ≡ set before.clients c new → stripe_count after ≡ stripe_count before
    → ((i d : ℕ) → get_or after.holders i None ≡ Some d → d < length before.clients)
    → ((d j : ℕ) → d ≢ c → holds after.holders d j ≡ holds before.holders d j) → IsInOrder after c new → IsOrderly after
set_order before after c new order below clients count known others one = record {
  some = subst (λ (n : ℕ). 1 ≤ n) (sym count) order.some;
  known = λ i d is.
      subst (λ (n : ℕ). d < n) (sym (ap (λ (all : List ClientState). length all) clients ∙ length-set before.clients c new)) (known i d is);
  rising = λ d.
      dite (ℕ_discrete d c)
      (λ same.
      subst (λ (k : ℕ). IsInOrder after k (client after k)) (sym same)
      (subst (IsInOrder after c)
      (sym (ap (λ (all : List ClientState). get_or all c fresh) clients ∙ get_or-set_same before.clients c new fresh below)) one))
      (λ differ.
      subst (IsInOrder after d)
      (sym (ap (λ (all : List ClientState). get_or all d fresh) clients ∙ get_or-set_other before.clients c d new fresh differ))
      (in_order_as before after d (client before d) (client before d) count (λ j. others d j differ) refl refl (order.rising d)));
}

-- holders are as they were
keep_order : (before after : State) (c : ℕ) (new : ClientState) → IsOrderly before → c < length before.clients
    → after.clients ≡ set before.clients c new → after.holders ≡ before.holders → IsInOrder after c new → IsOrderly after
keep_order before after c new order below clients holders one =
    set_order before after c new order below clients (ap (λ (all : List (Option ℕ)). length all) holders)
    (λ i d is. order.known i d (sym (ap (λ (all : List (Option ℕ)). get_or all i None) holders) ∙ is))
    (λ d j differ. ap (λ (all : List (Option ℕ)). holds all d j) holders) one

-- TAKE

some_same : {a b : ℕ} → Option.Some a ≡ Some b → a ≡ b
some_same is = cc is

known_taken : (holders : List (Option ℕ)) (c i k d end : ℕ) → c < end → i < length holders
    → ((i d : ℕ) → get_or holders i None ≡ Some d → d < end) → get_or (set holders i (Some c)) k None ≡ Some d → d < end
known_taken holders c i k d end below within known is =
    dite (ℕ_discrete k i)
    (λ same.
    let own : Some c ≡ Some d = sym (get_or-set_same holders i (Some c) None within) ∙ ap (λ (m : ℕ). get_or (set holders i (Some c)) m None) (sym same) ∙ is in
    subst (λ (n : ℕ). n < end) (some_same own) below)
    (λ differ. known k d (sym (get_or-set_other holders i k (Some c) None differ) ∙ is))

-- a client that takes a stripe holds it, and what it held
held_taken : (holders : List (Option ℕ)) (c i k : ℕ) → i < length holders → holds holders c k ≡ true → holds (set holders i (Some c)) c k ≡ true
held_taken holders c i k within held =
    dite (ℕ_discrete k i)
    (λ same. subst (λ (m : ℕ). holds (set holders i (Some c)) c m ≡ true) (sym same) (holds_taken holders c i within))
    (λ differ. ap (is_number c) (get_or-set_other holders i k (Some c) None differ) ∙ held)

later_next : (before : State) (c i j : ℕ) (peer : ClientState) (o : Option Call) → i < stripe_count before
    → next_stripe before c o ≡ Some i → next_stripe (taken before c peer i) c o ≡ Some j → i < j
later_next before c i j peer None within was is = absurd (cc was)
later_next before c i j peer (Some call) within was is =
    let n : ℕ = stripe_count before in
    let later : List (Option ℕ) = set before.holders i (Some c) in
    next_later before.holders later c i j (stripes_asked n call) (λ k held. held_taken before.holders c i k within held)
    (holds_taken before.holders c i within) (with_rising n [] (call_keys call) tt) was
    (subst (λ (m : ℕ). first_missing later c (stripes_asked m call) ≡ Some j) (length-set before.holders i (Some c)) is)

pub taken_order : (before : State) (c i : ℕ) → c < length before.clients → get_or before.holders i None ≡ None
    → next_stripe before c (open_call (client before c).phase) ≡ Some i → are_none (client before c).due ≡ true
    → IsOrderly before → IsOrderly (taken before c (client before c) i)
taken_order before c i below free next read order =
    let peer : ClientState = client before c in
    let within : i < stripe_count before = next_within before c (open_call peer.phase) i order.some next in
    set_order before (taken before c peer i) c (record peer { stay = stay_begun peer.stay before.epoch }) order below refl
    (length-set before.holders i (Some c)) (λ k d is. known_taken before.holders c i k d (length before.clients) below within order.known is)
    (λ d j differ. holds_set before.holders i d (Some c) (ap (is_number d) free) (apart_eqb c d (λ e. differ (sym e))) j)
    (λ k j none later held.
    let above : i < j = later_next before c i j peer (open_call peer.phase) within next later in
    dite (ℕ_discrete k i) (λ same. omega (arith, same, above))
    (λ differ.
    let was : holds before.holders c k ≡ true = sym (ap (is_number c) (get_or-set_other before.holders i k (Some c) None differ)) ∙ held in
    omega (arith, order.rising c k i read next was, above)))

-- the plan, which is made where no stripe is missing
plans_order : (c : ℕ) (before : State) (watches : List Pair) (asks : Option Asked) (after : State) → c < length before.clients
    → next_stripe before c (open_call (client before c).phase) ≡ None → PlansFor before c watches asks after → IsOrderly before → IsOrderly after
plans_order c before watches None after below last plans order = rw plans order
plans_order c before watches (Some asked) after below last plans order = by_plan plans
  where
    named : (mid : State) (new : ClientState) → IsOrderly mid → c < length mid.clients
        → next_stripe mid c (open_call (client mid c).phase) ≡ None → open_call new.phase ≡ open_call (client mid c).phase
        → IsOrderly (with_client mid c new)
    named mid new kept within none same =
        keep_order mid (with_client mid c new) c new kept within refl refl
        (in_order_last (with_client mid c new) c new
        (next_same mid (with_client mid c new) c (open_call new.phase) refl (λ j. refl) ∙ ap (next_stripe mid c) same ∙ none))

    roomy : (mid : State) → IsElse before mid → (c < length mid.clients) × (next_stripe mid c (open_call (client mid c).phase) ≡ None)
    roomy mid is = (
      subst (λ (all : List ClientState). c < length all) (sym is.clients) below,
      ap (λ (all : List ClientState). next_stripe mid c (open_call (get_or all c fresh).phase)) is.clients
          ∙ next_same before mid c (open_call (client before c).phase) (ap (λ (all : List (Option ℕ)). length all) is.holders)
          (λ j. ap (λ (all : List (Option ℕ)). holds all c j) is.holders) ∙ last,
    )

    by_plan : {writes : List Write} {new : State} → Plans before c writes new → IsOrderly new
    by_plan (Names due some few cold) = named before (record (client before c) { due = due }) order below last refl
    by_plan (MakesRoom stripes new written steps) =
        let is = steps_else before stripes new steps in
        else_order before new is.clients is.holders order
    by_plan (MeetsFull stripes mid i written steps is full) =
        let same = steps_else before stripes mid steps in
        let there = roomy mid same in
        named mid (record (client mid c) { full = true }) (else_order before mid same.clients same.holders order) there.0 there.1 refl

takes_order : (before : State) (c i : ℕ) (after : State) → c < length before.clients → get_or before.holders i None ≡ None
    → next_stripe before c (open_call (client before c).phase) ≡ Some i → are_none (client before c).due ≡ true
    → Takes before c (client before c) i after → IsOrderly before → IsOrderly after
takes_order before c i after below free next read takes order =
    let peer : ClientState = client before c in
    let mid : State = taken before c peer i in
    let new : ClientState = record peer { stay = stay_begun peer.stay before.epoch } in
    let kept : IsOrderly mid = taken_order before c i below free next read order in
    let is : client mid c ≡ new = get_or-set_same before.clients c new fresh below in
    elim (when_cases (is_none (next_stripe mid c (open_call peer.phase))) _ _ takes) as (λ _. IsOrderly after) [
      | inl held ↦
          plans_order c mid peer.watches (asked_by (open_call peer.phase)) after (rw (length-set before.clients c new) below)
          (ap (λ (one : ClientState). next_stripe mid c (open_call one.phase)) is ∙ none_is _ held.0) held.1 kept
      | inr fails ↦ rw fails.1 kept
    ]

-- COMMIT

-- how far a client has come whose call was committed
abbrev pub IsCommitted : (before after : Phase) → Type 0
IsCommitted (Calling at call) after = (later : Progress) × (later.unread ≡ at.unread) × (after ≡ Serving later)
IsCommitted (Leaving keys) after = after ≡ Left
IsCommitted _ after = ⊥

-- a client's call was committed, and this is the client then
pub record HasCommitted (before : State) (c : ℕ) (phase : Phase) (after : State) : Type 0 where
  pub new : ClientState
  pub committed : IsCommitted phase new.phase
  pub clients : after.clients ≡ set before.clients c new
  pub holders : after.holders ≡ before.holders

refused_to : (before : State) (c : ℕ) (at : Progress) (call : Call) (asks : Option Asked) (after : State)
    → Refused before c (client before c) at asks after → after.holders ≡ before.holders → HasCommitted before c (Calling at call) after
refused_to before c at call None after is holders = absurd is
refused_to before c at call (Some asked) after is holders = record {
  new = is.0;
  committed = (record at { stage = is.1.stage }, refl, ap (λ (one : ClientState). one.phase) is.1.else_same);
  clients = is.2;
  holders = holders;
}

told_to : (before : State) (c : ℕ) (at : Progress) (call : Call) (asks : Option Asked) (after : State)
    → Told before c (client before c) at call asks after → after.holders ≡ before.holders → HasCommitted before c (Calling at call) after
told_to before c at call None after is holders = record {
  new = is.0;
  committed = (record at { stage = is.2.stage }, refl, ap (λ (one : ClientState). one.phase) is.2.else_same);
  clients = is.3;
  holders = holders;
}
told_to before c at call (Some asked) after is holders = record {
  new = is.0;
  committed = (record at { stage = is.1.stage }, refl, ap (λ (one : ClientState). one.phase) is.1.else_same);
  clients = is.2;
  holders = holders;
}

pub commits_to : (before : State) (c : ℕ) (phase : Phase) (after : State) → Commits before c (client before c) phase after
    → HasCommitted before c phase after
commits_to before c (Calling at call) after commits =
    elim (when_cases (client before c).full _ _ commits) as (λ _. HasCommitted before c (Calling at call) after) [
      | inl full ↦ refused_to before c at call (asked_of call) after full.1.0 full.1.1.holders
      | inr goes ↦ told_to before c at call (asked_of call) after goes.1.0 goes.1.1.holders
    ]
commits_to before c (Leaving keys) after commits = record {
  new = record (client before c) { phase = Left; watches = [] };
  committed = refl;
  clients = commits.0;
  holders = commits.2.holders;
}
commits_to before c (Serving at) after commits = absurd commits
commits_to before c Left after commits = absurd commits
commits_to before c Ended after commits = absurd commits

no_call : (before after : Phase) → IsCommitted before after → open_call after ≡ None
no_call (Calling at call) after is = ap open_call is.2
no_call (Leaving keys) after is = ap open_call is
no_call (Serving at) after is = absurd is
no_call Left after is = absurd is
no_call Ended after is = absurd is

-- GIVE

pub or_cases : (a b : Bool) → (a || b) ≡ true → (a ≡ true) ⊎ (b ≡ true)
or_cases true b is = inl refl
or_cases false b is = inr is

pub not_both : (t : Bool) → not t ≡ true → t ≡ true → ⊥
not_both true is one = cc is
not_both false is one = cc one

known_given : (holders : List (Option ℕ)) (i k d : ℕ) → get_or (set holders i None) k None ≡ Some d → get_or holders k None ≡ Some d
known_given [] i k d is = is
known_given (first ∷ holders) zero zero d is = absurd (cc is)
known_given (first ∷ holders) zero (suc k) d is = is
known_given (first ∷ holders) (suc i) zero d is = is
known_given (first ∷ holders) (suc i) (suc k) d is = known_given holders i k d is

-- a client that is set as it was
pub set_as : (clients : List ClientState) (c : ℕ) → set clients c (get_or clients c fresh) ≡ clients
set_as [] c = refl
set_as (one ∷ clients) zero = refl
set_as (one ∷ clients) (suc c) = ap (λ (all : List ClientState). one ∷ all) (set_as clients c)

-- the clients after a give
pub given_clients : (before : State) (c i : ℕ) (ends : Bool)
    → (new : ClientState) × (new.phase ≡ (client before c).phase) × (new.due ≡ (client before c).due) × (new.fetched ≡ (client before c).fetched)
    × ((if ends then set before.clients c (record (client before c) { stay = None }) else before.clients) ≡ set before.clients c new)
given_clients before c i true = (record (client before c) { stay = None }, refl, refl, refl, refl)
given_clients before c i false = (client before c, refl, refl, refl, sym (set_as before.clients c))

gives_order : (before : State) (c i : ℕ) → c < length before.clients → holds before.holders c i ≡ true
    → (is_none (open_call (client before c).phase) || not (are_none (client before c).due)) ≡ true
    → IsOrderly before → IsOrderly (given before c (client before c) i)
gives_order before c i below held may order =
    let peer : ClientState = client before c in
    let after : State = given before c peer i in
    let to = given_clients before c i (is_none (open_call peer.phase) && holds_none c (set before.holders i None)) in
    set_order before after c to.0 order below to.4 (length-set before.holders i None)
    (λ k d is. order.known k d (known_given before.holders i k d is))
    (λ d j differ. holds_set before.holders i d None (held_by_one c d (get_or before.holders i None) held differ) refl j)
    (elim (or_cases (is_none (open_call peer.phase)) (not (are_none peer.due)) may) as (λ _. IsInOrder after c to.0) [
      | inl idle ↦ in_order_idle after c to.0 (ap open_call to.1 ∙ none_is _ idle)
      | inr due ↦ λ k j none next mine. absurd (not_both (are_none peer.due) due (sym (ap are_none to.2) ∙ none))
    ])

-- EVENTS OF CLIENTS

call_fed : (phase : Phase) (bytes : Bytes) → open_call (fed phase bytes) ≡ open_call phase
call_fed (Serving at) bytes = refl
call_fed (Calling at call) bytes = refl
call_fed (Leaving keys) bytes = refl
call_fed Left bytes = refl
call_fed Ended bytes = refl

pub is_next : (i : ℕ) (o : Option ℕ) → is_number i o ≡ true → o ≡ Some i
is_next i None is = cc is
is_next i (Some m) is = ap (λ (k : ℕ). Option.Some k) (same_eqb m i is)

does_order : (before : State) (c : ℕ) (e : Event) (mid : State) → c < length before.clients
    → is_enabled_for before c (client before c) e ≡ true → Does before c (client before c) e mid → IsOrderly before → IsOrderly mid
does_order before c (Piece _ bytes) mid below is does order =
    let peer : ClientState = client before c in
    let new : ClientState = heard peer bytes in
    rw does (keep_order before (with_client before c new) c new order below refl refl
    (in_order_as before (with_client before c new) c peer new refl (λ j. refl) (call_fed peer.phase bytes) refl (order.rising c)))
does_order before c (Close _) mid below is does order =
    let peer : ClientState = client before c in
    let new : ClientState = record peer { closed = true } in
    rw does (keep_order before (with_client before c new) c new order below refl refl
    (in_order_as before (with_client before c new) c peer new refl (λ j. refl) refl refl (order.rising c)))
does_order before c (Take _ i) mid below is does order =
    let first = both _ _ is in
    let second = both _ _ first.1 in
    takes_order before c i mid below (none_is _ second.0) (is_next i _ first.0) second.1 does order
does_order before c (Fetch _) mid below is does order =
    let new : ClientState = fetched (client before c) in
    rw does (keep_order before (with_client before c new) c new order below refl refl
    (in_order_none (with_client before c new) c new (both _ _ is).1))
does_order before c (Commit _) mid below is does order =
    let to = commits_to before c (client before c).phase mid does in
    keep_order before mid c to.new order below to.clients to.holders
    (in_order_idle mid c to.new (no_call (client before c).phase to.new.phase to.committed))
does_order before c (Give _ i) mid below is does order =
    let first = both _ _ is in
    rw does (gives_order before c i below first.0 first.1 order)
does_order before c _ mid below is does order = absurd does

goes_order : (mid new : State) (c : ℕ) → c < length mid.clients → Goes mid c new → IsOrderly mid → IsOrderly new
goes_order mid new c below goes order =
    elim (when_cases (is_idle (client mid c).phase && holds_none c mid.holders) _ _ goes) as (λ _. IsOrderly new) [
      | inl held ↦
          let peer : ClientState = held.1.0 in
          rw held.1.2 (keep_order mid (with_client mid c peer) c peer order below refl refl
          (in_order_none (with_client mid c peer) c peer (both _ _ held.0).1))
      | inr fails ↦ rw fails.1 order
    ]

-- AN EVENT KEEPS THE NUMBER OF CLIENTS

plans_count : (c : ℕ) (before : State) (watches : List Pair) (asks : Option Asked) (after : State) → PlansFor before c watches asks after
    → length after.clients ≡ length before.clients
plans_count c before watches None after plans = ap (λ (state : State). length state.clients) plans
plans_count c before watches (Some asked) after plans = by_plan plans
  where
    by_plan : {writes : List Write} {new : State} → Plans before c writes new → length new.clients ≡ length before.clients
    by_plan (Names due some few cold) = length-set before.clients c _
    by_plan (MakesRoom stripes new written steps) = ap (λ (all : List ClientState). length all) (steps_else before stripes new steps).clients
    by_plan (MeetsFull stripes mid i written steps is full) =
        length-set mid.clients c _ ∙ ap (λ (all : List ClientState). length all) (steps_else before stripes mid steps).clients

takes_count : (before : State) (c i : ℕ) (after : State) → Takes before c (client before c) i after
    → length after.clients ≡ length before.clients
takes_count before c i after takes =
    let peer : ClientState = client before c in
    let mid : State = taken before c peer i in
    let same : length mid.clients ≡ length before.clients = length-set before.clients c (record peer { stay = stay_begun peer.stay before.epoch }) in
    elim (when_cases (is_none (next_stripe mid c (open_call peer.phase))) _ _ takes) as (λ _. length after.clients ≡ length before.clients) [
      | inl held ↦ plans_count c mid peer.watches (asked_by (open_call peer.phase)) after held.1 ∙ same
      | inr fails ↦ ap (λ (state : State). length state.clients) fails.1 ∙ same
    ]

does_count : (before : State) (c : ℕ) (e : Event) (mid : State) → Does before c (client before c) e mid
    → length mid.clients ≡ length before.clients
does_count before c (Piece _ bytes) mid does = ap (λ (state : State). length state.clients) does ∙ length-set before.clients c _
does_count before c (Close _) mid does = ap (λ (state : State). length state.clients) does ∙ length-set before.clients c _
does_count before c (Take _ i) mid does = takes_count before c i mid does
does_count before c (Fetch _) mid does = ap (λ (state : State). length state.clients) does ∙ length-set before.clients c _
does_count before c (Commit _) mid does =
    let to = commits_to before c (client before c).phase mid does in
    ap (λ (all : List ClientState). length all) to.clients ∙ length-set before.clients c to.new
does_count before c (Give _ i) mid does =
    let to = given_clients before c i (is_none (open_call (client before c).phase) && holds_none c (set before.holders i None)) in
    ap (λ (state : State). length state.clients) does ∙ ap (λ (all : List ClientState). length all) to.4 ∙ length-set before.clients c to.0
does_count before c _ mid does = absurd does

pub does_below : (before : State) (c : ℕ) (e : Event) (mid : State) → c < length before.clients → Does before c (client before c) e mid
    → c < length mid.clients
does_below before c e mid below does = subst (λ (n : ℕ). c < n) (sym (does_count before c e mid does)) below

-- EACH EVENT

acts_order : (before : State) (c : ℕ) (e : Event) (new : State) → is_enabled_of before e (Some c) ≡ true
    → DoesAndGoes before e (Some c) new → IsOrderly before → IsOrderly new
acts_order before c e new is does order =
    let test = both _ _ is in
    let below : c < length before.clients = ltb-true _ _ test.0 in
    goes_order does.0 new c (does_below before c e does.0 below does.1) does.2 (does_order before c e does.0 below test.1 does.1 order)

turn_by : (before : State) (e : Event) (one : Option ℕ) (new : State)
    → When (is_enabled_of before e one) (DoesAndGoes before e one new) (new ≡ before) → IsOrderly before → IsOrderly new
turn_by before e None new turns order =
    elim (when_cases (is_enabled_of before e None) _ _ turns) as (λ _. IsOrderly new) [
      | inl held ↦
          let is = works_else before e new held.1 in
          else_order before new is.clients is.holders order
      | inr fails ↦ rw fails.1 order
    ]
turn_by before e (Some c) new turns order =
    elim (when_cases (is_enabled_of before e (Some c)) _ _ turns) as (λ _. IsOrderly new) [
      | inl held ↦ acts_order before c e new held.0 held.1 order
      | inr fails ↦ rw fails.1 order
    ]

pub turns_order : (before : State) (events : List Event) (new : State) → Turns before events new → IsOrderly before → IsOrderly new
turns_order before [] new is order = rw is order
turns_order before (e ∷ events) new turns order =
    turns_order turns.0 events new turns.2 (turn_by before e (actor e) turns.0 turns.1 order)

-- THE BEGINNING

none_there : (n i : ℕ) → get_or {A = Option ℕ} (replicate n None) i None ≡ None
none_there zero i = refl
none_there (suc n) zero = refl
none_there (suc n) (suc i) = none_there n i

pub start_order : (stripes clients frames limit : ℕ) → 1 ≤ stripe_count (start stripes clients frames limit)
    → IsOrderly (start stripes clients frames limit)
start_order stripes clients frames limit some = record {
  some = some;
  known = λ i d is. absurd (cc (sym (none_there stripes i) ∙ is));
  rising = λ c i j none next held. absurd (clash (is_number c (get_or (replicate stripes None) i None)) held (ap (is_number c) (none_there stripes i)));
}

-- A plan stays the one that is due until its call is committed, whatever else happens.
use Rattle.std.proofs.Common.{◌≡◌, ◌≢◌, ℕ, ◌<◌, Bool, true, false, ◌&&◌, ◌||◌, not, List, [], ◌∷◌, ◌++◌, length, get_or, set, Option, Some, None, is_none, nat_lt, nat_eq, refl, sym, ap, ap₂, ◌∙◌, subst, inl, inr, if◌then◌else◌, length-set}
use Rattle.std.specs.Bool.{Decides}
use Rattle.std.proofs.lemmas.Bool.{ltb-true}
use Rattle.std.proofs.lemmas.Bool.Decides.{Decides-eqb}
use Rattle.std.proofs.lemmas.List.{get_or-set_same, get_or-set_other}
use mathlib.Core.Logic.{dite}
use native.Mathlib.Decide.{ℕ_discrete}
use Rattle.words.specs.declared.reply.Reply.{Reply}
use Rattle.words.specs.declared.history.Entry.{Entry}
use Rattle.words.specs.declared.history.Operation.{Operation}
use Rattle.words.specs.Store.{Bytes, Write}
use Rattle.words.specs.History.{History, Pair, after, due, outcome, was_not_done, keys_named, keys_of_pairs}
use Rattle.words.specs.Locality.{AreSameAt, IsNoneOf, NamesNone}
use Rattle.words.specs.Stripes.{stripe_of}
use Rattle.words.specs.Session.{Asked, Run, Watch, Exec, operation_of}
use Rattle.gates.specs.Sets.{inserted}
use Rattle.transact.specs.declared.call.Call.{Call}
use Rattle.transact.specs.Calls.{asked_of, call_of, call_keys}
use Rattle.transact.specs.Plans.{IsPlan, stripes_with}
use Rattle.connection.specs.Clients.{Progress}
use Rattle.world_model.specs.declared.event.Event.{Event}
use Rattle.world_model.specs.declared.event.Event.TheVariants.{Piece, Close, Take, Commit, Give, Fetch}
use Rattle.world_model.specs.States.{Phase, Serving, Calling, Leaving, Left, Ended, Due, ClientState, State, fresh, client, stripe_count, open_call, with_client}
use Rattle.world_model.specs.Actors.{actor}
use Rattle.world_model.specs.Enabled.{is_number, holds, holds_none, first_missing, next_stripe, are_none, is_enabled_for, is_enabled_of}
use Rattle.world_model.specs.Advancing.{is_idle, When, Goes}
use Rattle.world_model.specs.Planning.{Plans, Names, MakesRoom, MeetsFull, PlansFor, asked_by, taken, Takes, reply_now}
use Rattle.world_model.specs.Commits.{Told, Refused, Commits}
use Rattle.world_model.specs.Effects.{Does, fed, heard}
use Rattle.world_model.specs.Turns.{DoesAndGoes, Turn}
use Rattle.world_model.specs.Soundness.{IsSound}
use Rattle.world_model.specs.Planned.{LocalLaws, IsPlanned, IsNoCommitOf}
use Rattle.world_model.proofs.Holding.{when_cases, both, none_is, apart_eqb, held_by_one, holds_set, missing_same}
use Rattle.world_model.proofs.Else.{IsElse, steps_else, works_else}
use Rattle.world_model.proofs.Marking.{call_given}

-- A HISTORY WITH AN ENTRY MORE

same_at : LocalLaws → (keys : List Bytes) (entry : Entry) (history : History) → NamesNone (entry ∷ []) keys
    → AreSameAt keys (after (entry ∷ history)) (after history)
same_at laws [] entry history none = tt
same_at laws (key ∷ keys) entry history none = (laws.leaves (entry ∷ []) history key none.0, same_at laws keys entry history none.1)

-- a plan is due still after an entry that names none of its keys
pub plan_after : LocalLaws → (operation : Operation) (entry : Entry) (history : History) (reply : Reply) (writes : List Write)
    → NamesNone (entry ∷ []) (keys_named operation) → IsPlan history operation reply writes → IsPlan (entry ∷ history) operation reply writes
plan_after laws operation entry history reply writes none plan =
    let replies : due (entry ∷ history) operation ≡ due history operation = laws.stays_due operation (entry ∷ []) history none in
    let outcomes : outcome (after (entry ∷ history)) operation ≡ outcome (after history) operation =
    laws.depends operation (after (entry ∷ history)) (after history) (same_at laws (keys_named operation) entry history none) in
    record {
      reply_due = plan.reply_due ∙ sym replies;
      writes_due =
          plan.writes_due
          ∙ sym (ap₂ (λ (said : Reply) (all : Reply × List Write). if was_not_done said then [] else all.1) replies outcomes);
    }

-- WHICH STRIPES ARE HELD

cons_held : (holders : List (Option ℕ)) (c first : ℕ) (stripes : List ℕ) → first_missing holders c (first ∷ stripes) ≡ None
    → (holds holders c first ≡ true) × (first_missing holders c stripes ≡ None)
cons_held holders c first stripes is =
    elim (holds holders c first) as (λ t. (if t then first_missing holders c stripes else Some first) ≡ None → (t ≡ true) × (first_missing holders c stripes ≡ None)) [
      | true ↦ λ none. (refl, none)
      | false ↦ λ none. cc none
    ] is

held_cons : (holders : List (Option ℕ)) (c first : ℕ) (stripes : List ℕ) → holds holders c first ≡ true → first_missing holders c stripes ≡ None
    → first_missing holders c (first ∷ stripes) ≡ None
held_cons holders c first stripes is none = ap (λ (t : Bool). if t then first_missing holders c stripes else Some first) is ∙ none

inserted_held : (holders : List (Option ℕ)) (c stripe : ℕ) (stripes : List ℕ) → first_missing holders c (inserted stripe stripes) ≡ None
    → (holds holders c stripe ≡ true) × (first_missing holders c stripes ≡ None)
inserted_held holders c stripe [] is = cons_held holders c stripe [] is
inserted_held holders c stripe (first ∷ stripes) is =
    elim (nat_lt stripe first) as (λ t. first_missing holders c (if t then stripe ∷ first ∷ stripes else (if nat_eq stripe first then first ∷ stripes else first ∷ inserted stripe stripes)) ≡ None
    → (holds holders c stripe ≡ true) × (first_missing holders c (first ∷ stripes) ≡ None)) [
      | true ↦ λ none. cons_held holders c stripe (first ∷ stripes) none
      | false ↦ λ none.
          elim (nat_eq stripe first) as (λ t. Decides t (stripe ≡ first) → first_missing holders c (if t then first ∷ stripes else first ∷ inserted stripe stripes) ≡ None
          → (holds holders c stripe ≡ true) × (first_missing holders c (first ∷ stripes) ≡ None)) [
            | true ↦ λ decides missing. (rw (decides.0 refl) (cons_held holders c first stripes missing).0, missing)
            | false ↦ λ decides missing.
                let both = cons_held holders c first (inserted stripe stripes) missing in
                let more = inserted_held holders c stripe stripes both.1 in
                (more.0, held_cons holders c first stripes both.0 more.1)
          ] (Decides-eqb stripe first) none
    ] is

-- the stripe of each key is held
abbrev AllHeld : List (Option ℕ) → (c n : ℕ) → List Bytes → Type 0
AllHeld holders c n [] = Unit {0}
AllHeld holders c n (key ∷ keys) = (holds holders c (stripe_of n key) ≡ true) × AllHeld holders c n keys

with_held : (holders : List (Option ℕ)) (c n : ℕ) (stripes : List ℕ) (keys : List Bytes) → first_missing holders c (stripes_with n stripes keys) ≡ None
    → (first_missing holders c stripes ≡ None) × AllHeld holders c n keys
with_held holders c n stripes [] is = (is, tt)
with_held holders c n stripes (key ∷ keys) is =
    let more = with_held holders c n (inserted (stripe_of n key) stripes) keys is in
    let one = inserted_held holders c (stripe_of n key) stripes more.0 in
    (one.1, (one.0, more.1))

-- keys whose stripes are held by two clients are others
key_apart : (holders : List (Option ℕ)) (c d n : ℕ) (first key : Bytes) → d ≢ c → holds holders c (stripe_of n key) ≡ true
    → holds holders d (stripe_of n first) ≡ true → first ≢ key
key_apart holders c d n first key differ mine others same =
    let no_one : holds holders d (stripe_of n key) ≡ false = held_by_one c d (get_or holders (stripe_of n key) None) mine differ in
    let one : holds holders d (stripe_of n key) ≡ true = ap (λ (k : Bytes). holds holders d (stripe_of n k)) (sym same) ∙ others in
    cc (sym no_one ∙ one)

none_of : (holders : List (Option ℕ)) (c d n : ℕ) (keys : List Bytes) (key : Bytes) → d ≢ c → holds holders c (stripe_of n key) ≡ true
    → AllHeld holders d n keys → IsNoneOf keys key
none_of holders c d n [] key differ mine others = tt
none_of holders c d n (first ∷ keys) key differ mine others =
    (key_apart holders c d n first key differ mine others.0, none_of holders c d n keys key differ mine others.1)

names_none : (holders : List (Option ℕ)) (c d n : ℕ) (mine : List Bytes) (entry : Entry) → d ≢ c → AllHeld holders c n mine
    → AllHeld holders d n (keys_named entry.operation) → NamesNone (entry ∷ []) mine
names_none holders c d n [] entry differ held others = tt
names_none holders c d n (key ∷ mine) entry differ held others =
    ((none_of holders c d n (keys_named entry.operation) key differ held.0 others, tt), names_none holders c d n mine entry differ held.1 others)

-- THE SAME PLAN IN ANOTHER STATE

module _ (c : ℕ) (call : Call) (asked : Asked) (reply : Reply) (writes : List Write) where
  abbrev At : State → Type 0
  At state = IsPlanned state c call asked reply writes

  planned_from : (old new : State) → client new c ≡ client old c → ((j : ℕ) → holds new.holders c j ≡ holds old.holders c j)
      → stripe_count new ≡ stripe_count old
      → ((operation : Operation) → keys_named operation ≡ call_keys call → IsPlan old.history operation reply writes
      → IsPlan new.history operation reply writes)
      → At old → At new
  planned_from old new same holds_same count_same goes planned =
      let watches : (client new c).watches ≡ (client old c).watches = ap (λ (one : ClientState). one.watches) same in
      record {
        calling = (planned.calling.0, ap (λ (one : ClientState). one.phase) same ∙ planned.calling.1);
        asks = planned.asks;
        keys = ap (λ (pairs : List Pair). keys_named (operation_of pairs asked)) watches ∙ planned.keys;
        held =
            ap (λ (n : ℕ). first_missing new.holders c (stripes_with n [] (call_keys call))) count_same
            ∙ missing_same old.holders new.holders c (stripes_with (stripe_count old) [] (call_keys call)) holds_same ∙ planned.held;
        none = ap (λ (one : ClientState). one.due) same ∙ planned.none;
        plan =
            subst (λ (pairs : List Pair). IsPlan new.history (operation_of pairs asked) reply writes) (sym watches)
            (goes (operation_of (client old c).watches asked) planned.keys planned.plan);
      }

  else_planned : (old new : State) → IsElse old new → At old → At new
  else_planned old new is planned =
      planned_from old new (ap (λ (clients : List ClientState). get_or clients c fresh) is.clients)
      (λ j. ap (λ (holders : List (Option ℕ)). holds holders c j) is.holders) (ap (λ (holders : List (Option ℕ)). length holders) is.holders)
      (λ operation keys plan. rw is.history plan) planned

  -- another client is set
  other_set : (d : ℕ) (old : State) (peer : ClientState) → d ≢ c → At old → At (with_client old d peer)
  other_set d old peer differ planned =
      planned_from old (with_client old d peer) (get_or-set_other old.clients d c peer fresh (λ e. differ (sym e))) (λ j. refl) refl
      (λ operation keys plan. plan) planned

  other_goes : (d : ℕ) (mid new : State) → d ≢ c → Goes mid d new → At mid → At new
  other_goes d mid new differ goes planned =
      elim (when_cases (is_idle (client mid d).phase && holds_none d mid.holders) _ _ goes) as (λ _. At new) [
        | inl held ↦ rw held.1.2 (other_set d mid held.1.0 differ planned)
        | inr fails ↦ rw fails.1 planned
      ]

  -- another client takes or gives a stripe that this one does not hold
  other_holds : (d i : ℕ) (old : State) (holder : Option ℕ) → is_number c (get_or old.holders i None) ≡ false → is_number c holder ≡ false
      → At old → At (record old { holders = set old.holders i holder })
  other_holds d i old holder was is planned =
      planned_from old (record old { holders = set old.holders i holder }) refl (holds_set old.holders i c holder was is)
      (length-set old.holders i holder) (λ operation keys plan. plan) planned

  other_plans : (d : ℕ) (old : State) (made : List Write) (new : State) → d ≢ c → Plans old d made new → At old → At new
  other_plans d old made new differ (Names due some few cold) planned = other_set d old _ differ planned
  other_plans d old made new differ (MakesRoom stripes _ written steps) planned = else_planned old new (steps_else old stripes new steps) planned
  other_plans d old made new differ (MeetsFull stripes mid i written steps is full) planned =
      other_set d mid _ differ (else_planned old mid (steps_else old stripes mid steps) planned)

  other_plan : (d : ℕ) (old : State) (watches : List Pair) (asks : Option Asked) (new : State) → d ≢ c → PlansFor old d watches asks new → At old
      → At new
  other_plan d old watches None new differ plans planned = rw plans planned
  other_plan d old watches (Some wanted) new differ plans planned = other_plans d old _ new differ plans planned

  other_takes : (d i : ℕ) (before after : State) → d ≢ c → get_or before.holders i None ≡ None → Takes before d (client before d) i after
      → At before → At after
  other_takes d i before after differ free takes planned =
      let mid : State = taken before d (client before d) i in
      let held : At (record before { holders = set before.holders i (Some d) }) =
      other_holds d i before (Some d) (ap (is_number c) free) (apart_eqb d c differ) planned in
      let kept : At mid = other_set d (record before { holders = set before.holders i (Some d) }) _ differ held in
      elim (when_cases (is_none (next_stripe mid d (open_call (client before d).phase))) _ _ takes) as (λ _. At after) [
        | inl last ↦ other_plan d mid (client before d).watches (asked_by (open_call (client before d).phase)) after differ last.1 kept
        | inr fails ↦ rw fails.1 kept
      ]

  -- another client commits
  committed : LocalLaws → (d : ℕ) (old new : State) (entry : Entry) → d ≢ c → client new c ≡ client old c → new.holders ≡ old.holders
      → new.history ≡ entry ∷ old.history → AllHeld old.holders d (stripe_count old) (keys_named entry.operation) → At old → At new
  committed laws d old new entry differ same holders grown others planned =
      let mine = (with_held old.holders c (stripe_count old) [] (call_keys call) planned.held).1 in
      planned_from old new same (λ j. ap (λ (all : List (Option ℕ)). holds all c j) holders) (ap (λ (all : List (Option ℕ)). length all) holders)
      (λ operation keys plan.
      rw grown (plan_after laws operation entry old.history reply writes
      (rw keys (names_none old.holders c d (stripe_count old) (call_keys call) entry differ mine others)) plan)) planned

  forgot : (d : ℕ) (old new : State) → client new c ≡ client old c → new.holders ≡ old.holders → new.history ≡ old.history → At old → At new
  forgot d old new same holders history planned =
      planned_from old new same (λ j. ap (λ (all : List (Option ℕ)). holds all c j) holders) (ap (λ (all : List (Option ℕ)). length all) holders)
      (λ operation keys plan. rw history plan) planned

  -- what a client's call names is what its operation names
  named : (pairs : List Pair) (wanted : Asked) (made : Call) → made ≡ call_of (keys_of_pairs pairs) wanted
      → call_keys made ≡ keys_named (operation_of pairs wanted)
  named pairs (Run command) made is = ap call_keys is
  named pairs (Watch keys) made is = ap call_keys is
  named pairs (Exec commands) made is = ap call_keys is

  other_told : LocalLaws → (d : ℕ) (before mid : State) (here : Progress) (made : Call) (asks : Option Asked) → d ≢ c
      → asked_of made ≡ asks → mid.holders ≡ before.holders → AllHeld before.holders d (stripe_count before) (call_keys made)
      → ((wanted : Asked) → asked_of made ≡ Some wanted → call_keys made ≡ keys_named (operation_of (client before d).watches wanted))
      → Told before d (client before d) here made asks mid → At before → At mid
  other_told laws d before mid here made None differ is holders held names told planned =
      forgot d before mid
      (ap (λ (all : List ClientState). get_or all c fresh) told.3 ∙ get_or-set_other before.clients d c told.0 fresh (λ e. differ (sym e)))
      holders told.4 planned
  other_told laws d before mid here made (Some wanted) differ is holders held names told planned =
      let operation : Operation = operation_of (client before d).watches wanted in
      committed laws d before mid (record { session = d; operation = operation; reply = reply_now before d operation }) differ
      (ap (λ (all : List ClientState). get_or all c fresh) told.2 ∙ get_or-set_other before.clients d c told.0 fresh (λ e. differ (sym e)))
      holders told.3 (rw (← names wanted is) held) planned

  other_refused : (d : ℕ) (before mid : State) (here : Progress) (asks : Option Asked) → d ≢ c → mid.holders ≡ before.holders
      → Refused before d (client before d) here asks mid → At before → At mid
  other_refused d before mid here None differ holders told planned = absurd told
  other_refused d before mid here (Some wanted) differ holders told planned =
      forgot d before mid
      (ap (λ (all : List ClientState). get_or all c fresh) told.2 ∙ get_or-set_other before.clients d c told.0 fresh (λ e. differ (sym e)))
      holders told.3 planned

  other_commits : LocalLaws → (d : ℕ) (before mid : State) (phase : Phase) → d ≢ c → d < length before.clients
      → (client before d).phase ≡ phase → next_stripe before d (open_call phase) ≡ None → IsSound before
      → Commits before d (client before d) phase mid → At before → At mid
  other_commits laws d before mid (Calling here made) differ below is none sound does planned =
      let held = (with_held before.holders d (stripe_count before) [] (call_keys made) none).1 in
      let talk = rw is at (sound.clients d below).talks in
      elim (when_cases (client before d).full _ _ does) as (λ _. At mid) [
        | inl full ↦ other_refused d before mid here (asked_of made) differ full.1.1.holders full.1.0 planned
        | inr goes ↦
            other_told laws d before mid here made (asked_of made) differ refl goes.1.1.holders held
            (λ wanted asks. named (client before d).watches wanted made
            (call_given talk.before here made wanted (client before d).watches talk.conversation.watches talk.gives asks)) goes.1.0 planned
      ]
  other_commits laws d before mid (Leaving keys) differ below is none sound does planned =
      forgot d before mid
      (ap (λ (all : List ClientState). get_or all c fresh) does.0
      ∙ get_or-set_other before.clients d c _ fresh (λ e. differ (sym e)))
      does.2.holders does.1 planned
  other_commits laws d before mid (Serving here) differ below is none sound does planned = absurd does
  other_commits laws d before mid Left differ below is none sound does planned = absurd does
  other_commits laws d before mid Ended differ below is none sound does planned = absurd does

  -- an event of another client
  other_does : LocalLaws → (d : ℕ) (before : State) (e : Event) (mid : State) → d ≢ c → d < length before.clients
      → is_enabled_for before d (client before d) e ≡ true → IsSound before → Does before d (client before d) e mid → At before → At mid
  other_does laws d before (Piece _ bytes) mid differ below is sound does planned = rw does (other_set d before _ differ planned)
  other_does laws d before (Close _) mid differ below is sound does planned = rw does (other_set d before _ differ planned)
  other_does laws d before (Take _ i) mid differ below is sound does planned =
      other_takes d i before mid differ (none_is _ (both _ _ (both _ _ is).1).0) does planned
  other_does laws d before (Fetch _) mid differ below is sound does planned = rw does (other_set d before _ differ planned)
  other_does laws d before (Commit _) mid differ below is sound does planned =
      other_commits laws d before mid (client before d).phase differ below refl (none_is _ (both _ _ (both _ _ is).1).0) sound does planned
  other_does laws d before (Give _ i) mid differ below is sound does planned =
      let held : At (record before { holders = set before.holders i None }) =
      other_holds d i before None (held_by_one d c (get_or before.holders i None) (both _ _ is).0 (λ e. differ (sym e))) refl planned in
      rw does (gives (is_none (open_call (client before d).phase) && holds_none d (set before.holders i None)) held)
    where
      gives : (ends : Bool) → At (record before { holders = set before.holders i None }) → At (record before {
        holders = set before.holders i None;
        clients = if ends then set before.clients d (record (client before d) { stay = None }) else before.clients;
      })
      gives true held = other_set d (record before { holders = set before.holders i None }) _ differ held
      gives false held = held
  other_does laws d before _ mid differ below is sound does planned = absurd does

  -- AN EVENT OF THE CLIENT ITSELF

  call_open : (phase : Phase) (at : Progress) → phase ≡ Calling at call → open_call phase ≡ Some call
  call_open phase at is = ap open_call is

  own_goes : (mid new : State) (at : Progress) → (client mid c).phase ≡ Calling at call → Goes mid c new → new ≡ mid
  own_goes mid new at is goes =
      elim (when_cases (is_idle (client mid c).phase && holds_none c mid.holders) _ _ goes) as (λ _. new ≡ mid) [
        | inl held ↦ absurd (cc (sym (ap is_idle is) ∙ (both _ _ held.0).0))
        | inr fails ↦ fails.1
      ]

  own_set : (old : State) (peer : ClientState) (at : Progress) → c < length old.clients → peer.phase ≡ Calling at call
      → peer.watches ≡ (client old c).watches → peer.due ≡ (client old c).due → At old → At (with_client old c peer)
  own_set old peer at below calls watches due planned =
      let is : client (with_client old c peer) c ≡ peer = get_or-set_same old.clients c peer fresh below in
      let same : (client (with_client old c peer) c).watches ≡ (client old c).watches = ap (λ (one : ClientState). one.watches) is ∙ watches in
      record {
        calling = (at, ap (λ (one : ClientState). one.phase) is ∙ calls);
        asks = planned.asks;
        keys = ap (λ (pairs : List Pair). keys_named (operation_of pairs asked)) same ∙ planned.keys;
        held = planned.held;
        none = ap (λ (one : ClientState). one.due) is ∙ due ∙ planned.none;
        plan = subst (λ (pairs : List Pair). IsPlan old.history (operation_of pairs asked) reply writes) (sym same) planned.plan;
      }

  reads_nothing : (due : List Due) → due ≡ [] → are_none due ≡ true
  reads_nothing due is = ap are_none is

  clash : (t : Bool) → t ≡ true → t ≡ false → ⊥
  clash t one other = cc (sym one ∙ other)

  own_does : (before : State) (e : Event) (mid new : State) → c < length before.clients
      → is_enabled_for before c (client before c) e ≡ true → IsNoCommitOf c e → actor e ≡ Some c
      → Does before c (client before c) e mid → Goes mid c new → At before → At new
  own_does before (Piece _ bytes) mid new below is other acts does goes planned =
      let at : Progress = planned.calling.0 in
      let peer : ClientState = client before c in
      let kept : At mid = rw does (own_set before (heard peer bytes) (record at { unread = at.unread ++ bytes }) below
      (ap (λ (p : Phase). fed p bytes) planned.calling.1) refl refl planned) in
      rw (own_goes mid new kept.calling.0 kept.calling.1 goes) kept
  own_does before (Close _) mid new below is other acts does goes planned =
      let kept : At mid = rw does (own_set before _ planned.calling.0 below planned.calling.1 refl refl planned) in
      rw (own_goes mid new kept.calling.0 kept.calling.1 goes) kept
  own_does before (Take _ i) mid new below is other acts does goes planned =
      let next : next_stripe before c (open_call (client before c).phase) ≡ None =
      ap (next_stripe before c) (call_open (client before c).phase planned.calling.0 planned.calling.1) ∙ planned.held in
      absurd (clash (is_number i (next_stripe before c (open_call (client before c).phase))) (both _ _ is).0 (ap (is_number i) next))
  own_does before (Fetch _) mid new below is other acts does goes planned =
      absurd (clash (not (are_none (client before c).due)) (both _ _ is).0
      (ap (λ (t : Bool). not t) (reads_nothing (client before c).due planned.none)))
  own_does before (Commit d) mid new below is other acts does goes planned = absurd (other (some_same acts))
    where
      some_same : {a b : ℕ} → Option.Some a ≡ Some b → a ≡ b
      some_same same = cc same
  own_does before (Give _ i) mid new below is other acts does goes planned =
      let none : is_none (open_call (client before c).phase) ≡ false =
      ap is_none (call_open (client before c).phase planned.calling.0 planned.calling.1) in
      let read : not (are_none (client before c).due) ≡ false = ap (λ (t : Bool). not t) (reads_nothing (client before c).due planned.none) in
      absurd (clash (is_none (open_call (client before c).phase) || not (are_none (client before c).due)) (both _ _ is).1
      (ap₂ (λ (a b : Bool). a || b) none read))
  own_does before _ mid new below is other acts does goes planned = absurd does

  -- EACH EVENT

  acts_planned : LocalLaws → (before : State) (e : Event) (d : ℕ) (new : State) → is_enabled_of before e (Some d) ≡ true → actor e ≡ Some d
      → IsNoCommitOf c e → DoesAndGoes before e (Some d) new → IsSound before → At before → At new
  acts_planned laws before e d new is acts other does sound planned =
      let test = both _ _ is in
      let below : d < length before.clients = ltb-true _ _ test.0 in
      dite (ℕ_discrete d c)
      (λ same.
      own_does before e does.0 new (rw same at below) (rw same at test.1) other (rw same at acts) (rw same at does.1) (rw same at does.2) planned)
      (λ differ.
      other_goes d does.0 new differ does.2 (other_does laws d before e does.0 differ below test.1 sound does.1 planned))

  turn_by : LocalLaws → (before : State) (e : Event) (one : Option ℕ) (new : State) → actor e ≡ one → IsNoCommitOf c e
      → When (is_enabled_of before e one) (DoesAndGoes before e one new) (new ≡ before) → IsSound before → At before → At new
  turn_by laws before e None new acts other turns sound planned =
      elim (when_cases (is_enabled_of before e None) _ _ turns) as (λ _. At new) [
        | inl held ↦ else_planned before new (works_else before e new held.1) planned
        | inr fails ↦ rw fails.1 planned
      ]
  turn_by laws before e (Some d) new acts other turns sound planned =
      elim (when_cases (is_enabled_of before e (Some d)) _ _ turns) as (λ _. At new) [
        | inl held ↦ acts_planned laws before e d new held.0 acts other held.1 sound planned
        | inr fails ↦ rw fails.1 planned
      ]

  -- A plan is due still after each event but its own commit.
  pub plan_stays : LocalLaws → (before : State) (e : Event) (new : State) → Turn before e new → IsNoCommitOf c e → IsSound before → At before
      → At new
  plan_stays laws before e new turns other sound planned = turn_by laws before e (actor e) new refl other turns sound planned

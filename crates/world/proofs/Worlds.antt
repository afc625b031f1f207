-- What a sound world says of its clients.
use Rattle.std.proofs.Common.{◌≡◌, ◌∙◌, ℕ, ◌<◌, Bool, true, false, ◌&&◌, List, [], ◌∷◌, ◌++◌, Option, Some, None, length, get_or, set, map, is_some, refl, sym, ap, subst, arith, eq-eqb, nat_eq, not, zero, suc, ◌+◌, replicate, Bor, Result, Ok, Err}
use Rattle.std.specs.Prelude.{OnOk, slice_get, slice_index_or}
use Rattle.std.specs.Option.{option_eq}
use Rattle.std.proofs.lemmas.List.{length-map}
use Rattle.std.proofs.lemmas.Option.{slice_get_within, slice_get_read}
use Rattle.words.specs.Store.{Bytes}
use Rattle.words.specs.History.{Pair, Placed}
use Rattle.transact.specs.declared.call.Call.{Call}
use Rattle.connection.specs.declared.client.Next.TheVariants as next
use Rattle.connection.specs.Clients.{Progress, Stage, IsCalled, Gives}
use Rattle.world_model.specs.States.{Phase, Serving, Calling, Leaving, Left, Ended, ClientState, State, client, fresh}
use Rattle.world_model.specs.Enabled.{is_number}
use Rattle.world_model.specs.Effects.{fed}
use Rattle.world_model.specs.Soundness.{IsSound, Talks}
use Rattle.world.specs.Desks.{IsNew, beside, client_of, due_of, is_full_plan}
use Rattle.world.specs.Peers.{Attends, IsEndable, IsSteady, OnCall}
use Rattle.world.specs.Tables.{AreEndable, AreNew}
use Rattle.world.specs.declared.member.Member.{Member}
use Rattle.world.specs.declared.peer.Open.TheVariants as opens
use Rattle.world.proofs.Givings.{gives_fed}
use Rattle.world.proofs.Members.{client_there}

attends : (c : ℕ) (own : List Placed) (watches : List Pair) (input : Bytes) (closed : Bool) (phase : Phase) (output : Bytes)
    → Talks c own watches input closed phase output → Attends watches phase
attends c own watches input closed (Serving at) output talks = (talks.ready, talks.watches)
attends c own watches input closed (Calling at call) output talks = (talks.before, talks.conversation.watches, talks.gives)
attends c own watches input closed (Leaving keys) output talks = talks.1
attends c own watches input closed Left output talks = tt
attends c own watches input closed Ended output talks = tt

-- each client's watches are what its session watches
pub steady_of : (state : State) (c : ℕ) → IsSound state → c < length state.clients → IsSteady (client state c)
steady_of state c sound below =
    let one : ClientState = client state c in
    attends c _ one.watches one.input one.closed one.phase one.output (sound.clients c below).talks

called_stage : (stage : Stage) (call : Call) (before at : Progress) → at.stage ≡ stage → Gives before (next.Calls call) at → IsCalled stage
called_stage stage call before at is gives = rw (← is, gives.2.1) tt

-- and it can be ended
pub endable_of : (watches : List Pair) (phase : Phase) → Attends watches phase → IsEndable phase
endable_of watches (Serving at) steady = steady.0
endable_of watches (Calling at call) steady = called_stage at.stage call steady.0 at refl steady.2
endable_of watches (Leaving keys) steady = tt
endable_of watches Left steady = tt
endable_of watches Ended steady = tt

-- the client that stands at a place
pub here : (state : State) (members : List Member) (c : ℕ) (one : Member) → state.clients ≡ map client_of members → slice_get members c ≡ Some one
    → (client state c ≡ client_of one) × (c < length state.clients)
here state members c one is there =
    let below : c < length members = slice_get_within members c one there in
    let count : length state.clients ≡ length members = ap length is ∙ length-map members client_of in
    (ap (λ (l : List ClientState). get_or l c fresh) is ∙ client_there members c one there, omega arith)

pub steady_at : (state : State) (members : List Member) (c : ℕ) (one : Member) → state.clients ≡ map client_of members → IsSound state
    → slice_get members c ≡ Some one → IsSteady one.peer
steady_at state members c one is sound there =
    let at = here state members c one is there in
    subst (λ (o : ClientState). Attends o.watches o.phase) at.0 (steady_of state c sound at.1)

pub all_endable : (state : State) (members : List Member) → state.clients ≡ map client_of members → IsSound state → AreEndable members
all_endable state members is sound c one there = endable_of one.peer.watches one.peer.phase (steady_at state members c one is sound there)

-- a client is put in a place
pub set_cases : (members : List Member) (c d : ℕ) (new one : Member) → slice_get (set members c new) d ≡ Some one → (P : Member → Type 0) → P new
    → (slice_get members d ≡ Some one → P one) → P one
set_cases [] c d new one is P here there = absurd (cc is)
set_cases (first ∷ members) zero zero new one is P here there = subst P (some_same is) here
  where
    some_same : {a b : Member} → Option.Some a ≡ Some b → a ≡ b
    some_same is = cc is
set_cases (first ∷ members) zero (suc d) new one is P here there = there is
set_cases (first ∷ members) (suc c) zero new one is P here there = there is
set_cases (first ∷ members) (suc c) (suc d) new one is P here there = set_cases members c d new one is P here there

pub endable_set : (members : List Member) (c : ℕ) (new : Member) → AreEndable members → IsEndable new.peer.phase → AreEndable (set members c new)
endable_set members c new all is d one there = set_cases members c d new one there (λ (m : Member). IsEndable m.peer.phase) is (λ was. all d one was)

pub set_here : (members : List Member) (c : ℕ) (one new : Member) → slice_get members c ≡ Some one → slice_get (set members c new) c ≡ Some new
set_here [] c one new is = absurd (cc is)
set_here (first ∷ members) zero one new is = refl
set_here (first ∷ members) (suc c) one new is = set_here members c one new is

pub some_same : {A : Type 0} {a b : A} → Option.Some a ≡ Some b → a ≡ b
some_same is = cc is

-- what was read at a place stands there
pub read_at : (members : List Member) (c n : ℕ) (one : Member) → n ≡ length members → c < n → one ≡ slice_index_or members c one → slice_get members c ≡ Some one
read_at members c n one count below is = slice_get_read members n c one count below is

-- a client that is fed a piece
pub steady_heard : (watches : List Pair) (phase : Phase) (bytes : Bytes) → Attends watches phase → Attends watches (fed phase bytes)
steady_heard watches (Serving at) bytes steady = steady
steady_heard watches (Calling at call) bytes steady =
    let before : Progress = steady.0 in
    (record before { unread = before.unread ++ bytes }, steady.1, gives_fed before at call bytes steady.2)
steady_heard watches (Leaving keys) bytes steady = steady
steady_heard watches Left bytes steady = tt
steady_heard watches Ended bytes steady = tt

-- no stripe is missing
pub is_none_of : {A : Type 0} (o : Option A) → is_some o ≡ false → o ≡ None
is_none_of None is = refl
is_none_of (Some a) is = cc is

-- a stripe that is the next one
pub is_next : (o : Option ℕ) (stripe : ℕ) → o ≡ Some stripe → is_number stripe o ≡ true
is_next o stripe is = rw is (eq-eqb stripe stripe refl)

-- the open call that a client has
pub on_call : (phase : Phase) (call : Bor Call) → OnCall (opens.Call call) phase → (at : Progress) × (phase ≡ Calling at call.now)
on_call (Serving at) call is = absurd is
on_call (Calling at other) call is = (at, ap (λ (o : Call). Calling at o) is)
on_call (Leaving keys) call is = absurd is
on_call Left call is = absurd is
on_call Ended call is = absurd is

-- a stripe that is no other than the next one
pub not_other : (o : Option ℕ) (stripe : ℕ) → false ≡ not (option_eq nat_eq o (Some stripe)) → is_number stripe o ≡ true
not_other None stripe is = cc is
not_other (Some m) stripe is = elim (nat_eq m stripe) as (λ t. false ≡ not t → t ≡ true) [
  | true ↦ λ e. refl
  | false ↦ λ e. cc e
] is

pub ok_then : {A E P Q : Type 0} (r : Result A E) → (P → Q) → OnOk r P → OnOk r Q
ok_then (Ok x) f p = f p
ok_then (Err e) f p = tt

pub both_true : {a b : Bool} → a ≡ true → b ≡ true → (a && b) ≡ true
both_true {a} {b} one other = rw (one, other) refl

-- THE CLIENTS ONE BY ONE

slice_in : (members more : List Member) (c : ℕ) (one : Member) → slice_get members c ≡ Some one → slice_get (members ++ more) c ≡ Some one
slice_in [] more c one is = absurd (cc is)
slice_in (first ∷ members) more zero one is = is
slice_in (first ∷ members) more (suc c) one is = slice_in members more c one is

slice_last : (members : List Member) (one : Member) → slice_get (members ++ one ∷ []) (length members) ≡ Some one
slice_last [] one = refl
slice_last (first ∷ members) one = slice_last members one

-- the last of them, and those before it
pub endable_last : (members : List Member) (one : Member) → AreEndable (members ++ one ∷ []) → AreEndable members × IsEndable one.peer.phase
endable_last members one all =
    (λ c other at. all c other (slice_in members (one ∷ []) c other at), all (length members) one (slice_last members one))

replicate_more : (n : ℕ) → (replicate n fresh ++ fresh ∷ []) ≡ replicate (n + 1) fresh
replicate_more zero = refl
replicate_more (suc n) =
    let number : suc (n + 1) ≡ suc n + 1 = omega arith in
    ap (λ (l : List ClientState). fresh ∷ l) (replicate_more n) ∙ ap (λ (k : ℕ). replicate k fresh) number

map_more : (members : List Member) (one : Member) → map client_of (members ++ one ∷ []) ≡ map client_of members ++ client_of one ∷ []
map_more [] one = refl
map_more (first ∷ members) one = ap (λ (l : List ClientState). client_of first ∷ l) (map_more members one)

new_client : (one : Member) → one.peer ≡ fresh → IsNew one.desk → client_of one ≡ fresh
new_client one peer desk =
    ap (beside one.desk) peer
    ∙ (λ j. let client : ClientState = record fresh {
      due = map due_of (desk.due j);
      fetched = desk.fetched j;
      full = is_full_plan (desk.plan j);
      stay = desk.stay j;
    } in client)

last_or : (members : List Member) (new : Member) (c : ℕ) (one : Member) → slice_get (members ++ new ∷ []) c ≡ Some one → (P : Member → Type 0) → P new
    → (slice_get members c ≡ Some one → P one) → P one
last_or [] new zero one at P is others = subst P (some_same at) is
last_or [] new (suc c) one at P is others = absurd (cc at)
last_or (first ∷ members) new zero one at P is others = others at
last_or (first ∷ members) new (suc c) one at P is others = last_or members new c one at P is others

pub new_more : (n : ℕ) (members : List Member) (one : Member) → AreNew n members → one.peer ≡ fresh → IsNew one.desk → AreNew (n + 1) (members ++ one ∷ [])
new_more n members one are peer desk = record {
  all =
      map_more members one
      ∙ ap (λ (l : List ClientState). l ++ client_of one ∷ []) are.all
      ∙ ap (λ (k : ClientState). replicate n fresh ++ k ∷ []) (new_client one peer desk)
      ∙ replicate_more n;
  each = λ c other at. last_or members one c other at (λ (m : Member). (m.peer ≡ fresh) × IsNew m.desk) (peer, desk) (λ was. are.each c other was);
}

pub new_none : (members : List Member) → members ≡ [] → AreNew 0 members
new_none members is = subst (AreNew 0) (sym is) (record { all = refl; each = λ c other at. absurd (cc at) })

-- new clients can be ended
pub new_endable : (n : ℕ) (members : List Member) → AreNew n members → AreEndable members
new_endable n members are c one at = subst (λ (k : ClientState). IsEndable k.phase) (sym (are.each c one at).0) tt

-- there is a client at each place
pub member_at : (members : List Member) (c : ℕ) → c < length members → (one : Member) × (slice_get members c ≡ Some one)
member_at [] c below = absurd (omega (arith, below))
member_at (first ∷ members) zero below = (first, refl)
member_at (first ∷ members) (suc c) below = member_at members c (omega (arith, below))

-- What an event of a client leaves, where one client has changed and others may see other stripes and another device.
use Rattle.std.proofs.Common.{◌≡◌, ◌≢◌, ◌⊎◌, ◌∙◌, ℕ, zero, suc, ◌<◌, Bool, true, false, not, ◌&&◌, ◌||◌, List, [], ◌∷◌, length, get_or, set, map, Option, Some, None, is_none, is_some, refl, sym, ap, ap₂, subst, inl, inr, ⊎_elim, length-set, if◌then◌else◌, arith}
use Rattle.std.specs.Prelude.{slice_get}
use Rattle.std.specs.Vec.{with_item}
use Rattle.std.proofs.lemmas.Bool.Decides.{Decides-eqb}
use Rattle.std.proofs.lemmas.List.{get_or-set_same, get_or-set_other}
use Rattle.words.specs.Store.{Bytes}
use Rattle.words.specs.Stripes.{stripe_of}
use Rattle.words.specs.declared.reply.Reply.{Reply}
use Rattle.words.specs.Store.{Write}
use Rattle.words.specs.Session.{Asked}
use Rattle.hybrid.specs.Staging.{AreRight}
use Rattle.transact.specs.declared.call.Call.{Call}
use Rattle.shards.specs.Shards.{logs_of}
use Rattle.world_model.specs.declared.event.Event.{Event}
use Rattle.world_model.specs.declared.event.Event.TheVariants as event
use Rattle.world_log.specs.Places.{Receipt, Shelves, places_of}
use Rattle.world_log.specs.Given.{IsGiven, StaysGiven}
use Rattle.world_log.specs.Stripes.{acts_for, lent, marks_in, with_holder}
use Rattle.world_log.specs.WorldLogs.{IsWorldLog}
use Rattle.world_log.specs.WorldLogs as logs
use Rattle.world_log.specs.Types.{Stripes}
use Rattle.world_log.specs.declared.logs.WorldLog.{WorldLog}
use Rattle.world_model.specs.States.{Phase, Due, ClientState, State, client, fresh, open_call, with_client}
use Rattle.world_model.specs.Enabled.{are_none, holds, holds_none, is_enabled_for, is_number, next_stripe}
use Rattle.world_model.specs.Places.{Each, standing}
use Rattle.world_model.specs.Planned.{IsNoCommitOf, IsPlanned}
use Rattle.world_model.specs.Planning.{PlansFor, ROUNDS, asked_by, stay_begun, taken}
use Rattle.world_model.specs.Effects.{fetched, given}
use Rattle.world.specs.Desks.{HasFetched, IsRight, client_of, due_of, is_full_plan}
use Rattle.world.specs.Laws.{TurnLaws}
use Rattle.world.specs.Peers.{IsSteady}
use Rattle.world.specs.Tables.{AreEndable, Handled, HasComeTo, HasHeld, IsKept, IsTaken, IsWorld, PlanStays, Same, New, StaysRoomy, Tended, rest_of, state_of}
use Rattle.world.specs.declared.desk.Desk.{Desk}
use Rattle.world.specs.declared.desk.Plan.{Plan}
use Rattle.world.specs.declared.desk.Plan.TheVariants as plan
use Rattle.world.specs.declared.member.Member.{Member}
use Rattle.world.specs.declared.world.World.{World}
use Rattle.world.proofs.Coming.{held_apart, logs_in, roomy_both, some_held}
use Rattle.world.proofs.Handling.{roomy_same, steady_here}
use Rattle.world.proofs.Members.{clients_with}
use Rattle.world.proofs.Settling.{when_false, when_true}
use Rattle.world.proofs.Worlds.{endable_set, here, set_here, some_same}

-- ONE CLIENT OF ALL

-- where a client was put in a place, another stands where it did
pub set_apart : (members : List Member) (c d : ℕ) (new other : Member) → slice_get (set members c new) d ≡ Some other
    → ((d ≡ c) × (other ≡ new)) ⊎ ((d ≢ c) × (slice_get members d ≡ Some other))
set_apart [] c d new other is = absurd (cc is)
set_apart (first ∷ members) zero zero new other is = inl (refl, sym (some_same is))
set_apart (first ∷ members) zero (suc d) new other is = inr (λ same. absurd (omega (arith, same)), is)
set_apart (first ∷ members) (suc c) zero new other is = inr (λ same. absurd (omega (arith, same)), is)
set_apart (first ∷ members) (suc c) (suc d) new other is = ⊎_elim
    (λ at. inl (ap (λ (n : ℕ). suc n) at.0, at.1))
    (λ apart. inr (λ same. apart.0 (pred_same c d same), apart.1))
    (set_apart members c d new other is)
  where
    pred_same : (a b : ℕ) → suc b ≡ suc a → b ≡ a
    pred_same a b same = omega (arith, same)

each_as : {A : Type 0} (P Q : A → Type 0) (all : List A) → ((one : A) → P one → Q one) → Each P all → Each Q all
each_as P Q [] turn each = tt
each_as P Q (one ∷ others) turn each = (turn one each.0, each_as P Q others turn each.1)

-- what is right of a client is right where the device gave all that it gave
pub right_kept : (old new : Shelves) (desk : Desk) → StaysGiven old new → IsRight old desk → IsRight new desk
right_kept old new desk stays is = record {
  given = each_as (λ (read : ℕ × Receipt). IsGiven old read.1) (λ (read : ℕ × Receipt). IsGiven new read.1) desk.due.items
      (λ read given. stays read.1 given) is.given;
  right = is.right;
  few = is.few;
}

pub tended_by : (old new : World) (c : ℕ) (one : Member) (e : Event) → new.members.items ≡ set old.members.items c one → IsWorldLog new.log → IsWorld old
    → StaysGiven old.log.device new.log.device → IsRight new.log.device one.desk → PlanStays old new e c one
    → ((d : ℕ) → d ≢ c → StaysRoomy d old.log.stripes new.log.stripes) → ((d : ℕ) → d ≢ c → IsNoCommitOf d e) → Tended old e new
tended_by old new c one e members log is stays right own rooms none = record {
  count = ap length members ∙ length-set old.members.items c one;
  log = log;
  desks = λ d other at. ⊎_elim
      (λ here. subst (λ (m : Member). IsRight new.log.device m.desk) (sym here.1) right)
      (λ apart. right_kept old.log.device new.log.device other.desk stays (is.desks d other apart.1))
      (set_apart old.members.items c d one other (subst (λ (l : List Member). slice_get l d ≡ Some other) members at));
  plans = λ d other at. ⊎_elim
      (λ here. subst (λ (m : Member). PlanStays old new e d m) (sym here.1) (subst (λ (n : ℕ). PlanStays old new e n one) (sym here.0) own))
      (λ apart. Same other apart.1 refl (none d apart.0) (rooms d apart.0))
      (set_apart old.members.items c d one other (subst (λ (l : List Member). slice_get l d ≡ Some other) members at));
}

-- A PLAN THAT IS KEPT

-- a call that is planned lacks no stripe, and nothing is to be read for it
planned_lacks : (state : State) (c stripe : ℕ) (call : Call) (asked : Asked) (reply : Reply) (writes : List Write) → IsPlanned state c call asked reply writes
    → next_stripe state c (open_call (client state c).phase) ≡ Some stripe → ⊥
planned_lacks state c stripe call asked reply writes planned next =
    let none : next_stripe state c (open_call (client state c).phase) ≡ None =
    ap (λ (p : Phase). next_stripe state c (open_call p)) planned.calling.1 ∙ planned.held in
    no_stripe (sym none ∙ next)
  where
    no_stripe : {stripe : ℕ} → Option.None ≡ Some stripe → ⊥
    no_stripe e = cc e

pub no_plan_lacking : (state : State) (stripes : Stripes) (c stripe : ℕ) (p : Plan) → IsKept state stripes c p
    → next_stripe state c (open_call (client state c).phase) ≡ Some stripe → p ≡ plan.Nothing
no_plan_lacking state stripes c stripe plan.Nothing kept next = refl
no_plan_lacking state stripes c stripe (plan.Made planned) kept next = absurd (planned_lacks state c stripe kept.call kept.asked planned.reply planned.writes kept.due next)
no_plan_lacking state stripes c stripe plan.Full kept next = absurd (planned_lacks state c stripe kept.call kept.asked kept.reply kept.writes kept.due next)

planned_gives : (state : State) (c : ℕ) (call : Call) (asked : Asked) (reply : Reply) (writes : List Write) → IsPlanned state c call asked reply writes
    → (is_none (open_call (client state c).phase) || not (are_none (client state c).due)) ≡ true → ⊥
planned_gives state c call asked reply writes planned gives =
    let none : (is_none (open_call (client state c).phase) || not (are_none (client state c).due)) ≡ false =
    ap₂ (λ (p : Phase) (d : List Due). is_none (open_call p) || not (are_none d)) planned.calling.1 planned.none in
    cc (sym none ∙ gives)

pub no_plan_giving : (state : State) (stripes : Stripes) (c : ℕ) (p : Plan) → IsKept state stripes c p
    → (is_none (open_call (client state c).phase) || not (are_none (client state c).due)) ≡ true → p ≡ plan.Nothing
no_plan_giving state stripes c plan.Nothing kept gives = refl
no_plan_giving state stripes c (plan.Made planned) kept gives = absurd (planned_gives state c kept.call kept.asked planned.reply planned.writes kept.due gives)
no_plan_giving state stripes c plan.Full kept gives = absurd (planned_gives state c kept.call kept.asked kept.reply kept.writes kept.due gives)

-- ANOTHER HOLDER

pub with_holder_right : (log : WorldLog) (i : ℕ) (holder : Option ℕ) → IsWorldLog log
    → IsWorldLog (let l : WorldLog = record log { stripes = with_holder log.stripes i holder } in l)
with_holder_right log i holder is = record {
  even = record {
    lanes = is.even.lanes ∙ sym (length-set log.stripes.holders.items i holder);
    some = rw (length-set log.stripes.holders.items i holder) is.even.some;
    most = rw (length-set log.stripes.holders.items i holder) is.even.most;
  };
  lanes = is.lanes;
}

-- a stripe that a client does not hold gets another holder: the client's are as they were
pub roomy_holder : (stripes : Stripes) (d i : ℕ) (holder : Option ℕ) → holds stripes.holders.items d i ≡ false → StaysRoomy d stripes (with_holder stripes i holder)
roomy_holder stripes d i holder away = record {
  count = length-set stripes.holders.items i holder;
  rooms = λ j log there. (log, same j (some_held (holds stripes.holders.items d j) (slice_get stripes.lanes.items j) log there) ∙ there, λ weight room. room);
}
  where
    apart : (j : ℕ) → holds stripes.holders.items d j ≡ true → j ≢ i
    apart j held at = cc (sym held ∙ ap (holds stripes.holders.items d) at ∙ away)

    same : (j : ℕ) → holds stripes.holders.items d j ≡ true
        → logs_of (lent (acts_for (with_holder stripes i holder) d)) j ≡ logs_of (lent (acts_for stripes d)) j
    same j held =
        ap (λ (o : Option ℕ). logs_in (is_number d o) (slice_get stripes.lanes.items j)) (get_or-set_other stripes.holders.items i j holder None (apart j held))

-- the plain state with it
holder_state : (old : World) (c i : ℕ) (holder : Option ℕ) (one : Member)
    → state_of (let w : World = record old { members = with_item old.members c one; log = record old.log { stripes = with_holder old.log.stripes i holder } } in w)
    ≡ (let s : State = record (state_of old) { holders = set old.log.stripes.holders.items i holder; clients = set (state_of old).clients c (client_of one) } in s)
unfolding state_of
holder_state old c i holder one =
    ap₂ (λ (l : List ClientState) (n : ℕ). (let s : State = record (state_of old) {
      holders = set old.log.stripes.holders.items i holder;
      clients = l;
      marks = λ key session. marks_in (slice_get old.log.stripes.lanes.items (stripe_of n key)) key session;
    } in s))
    (clients_with old.members.items c one)
    (length-set old.log.stripes.holders.items i holder)

-- TAKE

-- the world where a client holds a stripe more
abbrev pub with_hold : World → (c stripe : ℕ) → Member → World
with_hold old c stripe one = record old {
  members = with_item old.members c (record one { desk = record one.desk { stay = stay_begun one.desk.stay old.log.epoch } });
  log = record old.log { stripes = with_holder old.log.stripes stripe (Some c) };
}

pub held_state : (old : World) (c stripe : ℕ) (one : Member) → slice_get old.members.items c ≡ Some one
    → state_of (with_hold old c stripe one) ≡ taken (state_of old) c (client (state_of old) c) stripe
unfolding state_of
held_state old c stripe one there =
    holder_state old c stripe (Some c) (record one { desk = record one.desk { stay = stay_begun one.desk.stay old.log.epoch } })
    ∙ ap (λ (k : ClientState). taken (state_of old) c k stripe) (sym (here (state_of old) old.members.items c one refl there).0)

-- the stripe that is taken next is free
free_apart : (stripes : Stripes) (d i : ℕ) → is_none (get_or stripes.holders.items i None) ≡ true → holds stripes.holders.items d i ≡ false
free_apart stripes d i free = none (get_or stripes.holders.items i None) free
  where
    none : (o : Option ℕ) → is_none o ≡ true → is_number d o ≡ false
    none None is = refl
    none (Some m) is = cc is

pub taken_by : (old : World) (c stripe : ℕ) (one : Member) → IsWorld old → slice_get old.members.items c ≡ Some one
    → next_stripe (state_of old) c (open_call (client (state_of old) c).phase) ≡ Some stripe → one.desk.due.items ≡ []
    → get_or old.log.stripes.holders.items stripe None ≡ None
    → IsTaken c (with_hold old c stripe one)
unfolding state_of
taken_by old c stripe one is there next none free =
    let new : Member = record one { desk = record one.desk { stay = stay_begun one.desk.stay old.log.epoch } } in
    record {
      before = state_of old;
      stripe = stripe;
      sound = is.sound;
      below = (here (state_of old) old.members.items c one refl there).1;
      free = free;
      reads = ap (λ (k : ClientState). k.due) (here (state_of old) old.members.items c one refl there).0 ∙ ap (map due_of) none;
      state = held_state old c stripe one there;
      log = with_holder_right old.log stripe (Some c) is.log;
      one = new;
      there = set_here old.members.items c one new there;
      steady = steady_here old c one is there;
      right = right_kept old.log.device old.log.device new.desk (λ receipt given. given) (desk_right one.desk new.desk refl refl refl (is.desks c one there));
      none = none;
      plan = no_plan_lacking (state_of old) old.log.stripes c stripe one.desk.plan (is.plans c one there) next;
    }
  where
    desk_right : (was now : Desk) → now.due ≡ was.due → now.staged ≡ was.staged → now.fetched ≡ was.fetched → IsRight old.log.device was → IsRight old.log.device now
    desk_right was now due staged fetched is = record {
      given = subst (λ v. Each (λ (read : ℕ × Receipt). IsGiven old.log.device read.1) v.items) (sym due) is.given;
      right = subst AreRight (sym staged) is.right;
      few = λ some. subst (λ (n : ℕ). n < ROUNDS) (sym fetched) (is.few (ap (λ v. are_none v.items) (sym due) ∙ some));
    }

pub none_mapped : (items : List (ℕ × Receipt)) → are_none (map due_of items) ≡ are_none items
none_mapped [] = refl
none_mapped (read ∷ items) = refl

-- what an enabled take is
pub record TakeParts (old : World) (c stripe : ℕ) (one : Member) : Type 0 where
  pub next : next_stripe (state_of old) c (open_call (client (state_of old) c).phase) ≡ Some stripe
  pub free : is_none (get_or old.log.stripes.holders.items stripe None) ≡ true
  pub none : one.desk.due.items ≡ []

both_of : (a b : Bool) → (a && b) ≡ true → (a ≡ true) × (b ≡ true)
both_of true b is = (refl, is)
both_of false b is = cc is

number_is : (n : ℕ) (o : Option ℕ) → is_number n o ≡ true → o ≡ Some n
number_is n None is = cc is
number_is n (Some m) is = ap (λ (k : ℕ). Option.Some k) ((Decides-eqb m n).0 is)

none_items : (items : List (ℕ × Receipt)) → are_none items ≡ true → items ≡ []
none_items [] is = refl
none_items (read ∷ items) is = cc is

-- of the client, by what it has
due_items : (old : World) (c : ℕ) (one : Member) → slice_get old.members.items c ≡ Some one → are_none (client (state_of old) c).due ≡ are_none one.desk.due.items
unfolding state_of
due_items old c one there = ap (λ (k : ClientState). are_none k.due) (here (state_of old) old.members.items c one refl there).0 ∙ none_mapped one.desk.due.items

pub take_parts : (old : World) (c stripe : ℕ) (one : Member) → slice_get old.members.items c ≡ Some one
    → is_enabled_for (state_of old) c (client (state_of old) c) (event.Take c stripe) ≡ true → TakeParts old c stripe one
unfolding state_of
take_parts old c stripe one there enabled =
    let parts = both_of (is_number stripe (next_stripe (state_of old) c (open_call (client (state_of old) c).phase))) _ enabled in
    let others = both_of (is_none (get_or old.log.stripes.holders.items stripe None)) _ parts.1 in
    record {
      next = number_is stripe (next_stripe (state_of old) c (open_call (client (state_of old) c).phase)) parts.0;
      free = others.0;
      none = none_items one.desk.due.items (sym (due_items old c one there) ∙ others.1);
    }

-- a call may be committed of which no stripe is missing, and for which nothing is to be read
pub record CommitParts (old : World) (c : ℕ) (one : Member) : Type 0 where
  pub all : next_stripe (state_of old) c (open_call (client (state_of old) c).phase) ≡ None
  pub calls : is_some (open_call (client (state_of old) c).phase) ≡ true
  pub none : one.desk.due.items ≡ []

none_is : {A : Type 0} (o : Option A) → is_none o ≡ true → o ≡ None
none_is None is = refl
none_is (Some a) is = cc is

pub commit_parts : (old : World) (c : ℕ) (one : Member) → slice_get old.members.items c ≡ Some one
    → is_enabled_for (state_of old) c (client (state_of old) c) (event.Commit c) ≡ true → CommitParts old c one
commit_parts old c one there enabled =
    let parts = both_of (is_some (open_call (client (state_of old) c).phase)) _ enabled in
    let others = both_of (is_none (next_stripe (state_of old) c (open_call (client (state_of old) c).phase))) _ parts.1 in
    record {
      all = none_is (next_stripe (state_of old) c (open_call (client (state_of old) c).phase)) others.0;
      calls = parts.0;
      none = none_items one.desk.due.items (sym (due_items old c one there) ∙ others.1);
    }

-- what is missing then
next_taken : (old : World) (c stripe : ℕ) (one : Member) → slice_get old.members.items c ≡ Some one
    → next_stripe (taken (state_of old) c (client (state_of old) c) stripe) c (open_call (client (state_of old) c).phase)
    ≡ next_stripe (state_of (with_hold old c stripe one)) c (open_call (client (state_of (with_hold old c stripe one)) c).phase)
unfolding state_of
next_taken old c stripe one there =
    let below = (here (state_of old) old.members.items c one refl there).1 in
    ap₂ (λ (s : State) (p : Phase). next_stripe s c (open_call p)) (sym (held_state old c stripe one there))
    (ap (λ (k : ClientState). k.phase)
    (sym (get_or-set_same (state_of old).clients c _ fresh below) ∙ ap (λ (s : State). client s c) (sym (held_state old c stripe one there))))

-- a stripe was taken, and others are missing
pub handled_hold : (old : World) (c stripe more : ℕ) (one : Member) → IsWorld old → slice_get old.members.items c ≡ Some one
    → is_enabled_for (state_of old) c (client (state_of old) c) (event.Take c stripe) ≡ true
    → next_stripe (state_of (with_hold old c stripe one)) c (open_call (client (state_of (with_hold old c stripe one)) c).phase) ≡ Some more
    → Handled old c (event.Take c stripe) (with_hold old c stripe one)
unfolding state_of taken_by
handled_hold old c stripe more one is there enabled lacks =
    let parts = take_parts old c stripe one there enabled in
    let new : World = with_hold old c stripe one in
    let t = taken_by old c stripe one is there parts.next parts.none (none_is _ parts.free) in
    record {
      enabled = enabled;
      does = when_false _ _ _
          (ap is_none (next_taken old c stripe one there) ∙ ap is_none lacks)
          (held_state old c stripe one there);
      ready = λ other at. subst (λ (m : Member). IsSteady m.peer) (some_same (sym (t.there) ∙ at)) t.steady;
      tended = tended_by old new c t.one (event.Take c stripe) refl t.log is (λ receipt given. given) t.right
          (Same one there refl tt (roomy_holder old.log.stripes c stripe (Some c) (free_apart old.log.stripes c stripe parts.free)))
          (λ d differ. roomy_holder old.log.stripes d stripe (Some c) (free_apart old.log.stripes d stripe parts.free)) (λ d differ. tt);
    }

pub set-set_at : (members : List Member) (c : ℕ) (one other : Member) → set (set members c one) c other ≡ set members c other
set-set_at [] c one other = refl
set-set_at (first ∷ members) zero one other = refl
set-set_at (first ∷ members) (suc c) one other = ap (λ (l : List Member). first ∷ l) (set-set_at members c one other)

-- the last one was taken, and the call was planned
pub handled_plan : (old : World) (c stripe : ℕ) (one : Member) (new : World) → IsWorld old → slice_get old.members.items c ≡ Some one
    → is_enabled_for (state_of old) c (client (state_of old) c) (event.Take c stripe) ≡ true
    → next_stripe (state_of (with_hold old c stripe one)) c (open_call (client (state_of (with_hold old c stripe one)) c).phase) ≡ None
    → HasComeTo (with_hold old c stripe one) c new
    → Handled old c (event.Take c stripe) new
unfolding state_of taken_by
handled_plan old c stripe one new is there enabled all comes =
    let parts = take_parts old c stripe one there enabled in
    let mid : World = with_hold old c stripe one in
    let t = taken_by old c stripe one is there parts.next parts.none (none_is _ parts.free) in
    let at : comes.one ≡ t.one = some_same (sym comes.there ∙ t.there) in
    let here_is = (here (state_of old) old.members.items c one refl there).0 in
    let later : Member = record comes.one { desk = comes.desk } in
    let members : new.members.items ≡ set mid.members.items c later = ap (λ (w : World). w.members.items) comes.else_same in
    let again : new.members.items ≡ set old.members.items c later = members ∙ set-set_at old.members.items c t.one later in
    let phase : comes.one.peer ≡ one.peer = ap (λ (m : Member). m.peer) at in
    record {
      enabled = enabled;
      does = when_true _ _ _
          (ap is_none (next_taken old c stripe one there ∙ all))
          (subst (λ (k : ClientState). PlansFor (taken (state_of old) c (client (state_of old) c) stripe) c k.watches (asked_by (open_call k.phase)) (state_of new)) (sym here_is)
          (subst (λ (p : ClientState). PlansFor (taken (state_of old) c (client (state_of old) c) stripe) c p.watches (asked_by (open_call p.phase)) (state_of new)) phase
          (subst (λ (s : State). PlansFor s c comes.one.peer.watches (asked_by (open_call comes.one.peer.phase)) (state_of new)) (held_state old c stripe one there) comes.plans)));
      ready = λ other here.
          let same : other ≡ later = some_same (sym here ∙ ap (λ (l : List Member). slice_get l c) again ∙ set_here old.members.items c one later there) in
          subst (λ (m : Member). IsSteady m.peer) (sym same) (subst (λ (p : ClientState). IsSteady p) (sym phase) t.steady);
      tended = tended_by old new c later (event.Take c stripe) again comes.log is comes.given comes.right (New refl comes.kept)
          (λ d differ. roomy_both d old.log.stripes mid.log.stripes new.log.stripes
          (roomy_holder old.log.stripes d stripe (Some c) (free_apart old.log.stripes d stripe parts.free)) (comes.rooms d differ)) (λ d differ. tt);
    }

-- IN THE WORDS OF THE CODE

some_of : (o : Option ℕ) → is_some o ≡ true → (n : ℕ) × (o ≡ Some n)
some_of None is = cc is
some_of (Some n) is = (n, refl)

none_of : (o : Option ℕ) → is_some o ≡ false → o ≡ None
none_of None is = refl
none_of (Some n) is = cc is

-- the stripe that a world's client takes next
abbrev pub next_in : World → ℕ → Option ℕ
next_in world c = next_stripe (state_of world) c (open_call (client (state_of world) c).phase)

pub held_taken : (old mid : World) (c stripe : ℕ) → IsWorld old → HasHeld old c stripe mid
    → is_enabled_for (state_of old) c (client (state_of old) c) (event.Take c stripe) ≡ true → IsTaken c mid
held_taken old mid c stripe is held enabled =
    let parts = take_parts old c stripe held.one held.there enabled in
    subst (IsTaken c) (sym held.else_same) (taken_by old c stripe held.one is held.there parts.next parts.none (none_is _ parts.free))

pub held_more : (old mid : World) (c stripe : ℕ) (o : Option ℕ) (t : Bool) → IsWorld old → HasHeld old c stripe mid
    → is_enabled_for (state_of old) c (client (state_of old) c) (event.Take c stripe) ≡ true
    → o ≡ next_in mid c → t ≡ is_some o → t ≡ true → Handled old c (event.Take c stripe) mid
held_more old mid c stripe o t is held enabled next some test =
    let more = some_of o (sym some ∙ test) in
    subst (Handled old c (event.Take c stripe)) (sym held.else_same)
    (handled_hold old c stripe more.0 held.one is held.there enabled
    (subst (λ (w : World). next_in w c ≡ Some more.0) held.else_same (sym next ∙ more.1)))

pub held_planned : (old mid new : World) (c stripe : ℕ) (o : Option ℕ) (t : Bool) → IsWorld old → HasHeld old c stripe mid
    → is_enabled_for (state_of old) c (client (state_of old) c) (event.Take c stripe) ≡ true
    → o ≡ next_in mid c → t ≡ is_some o → t ≡ false → HasComeTo mid c new → Handled old c (event.Take c stripe) new
held_planned old mid new c stripe o t is held enabled next some test comes =
    let all : next_in mid c ≡ None = sym next ∙ none_of o (sym some ∙ test) in
    handled_plan old c stripe held.one new is held.there enabled
    (subst (λ (w : World). next_in w c ≡ None) held.else_same all)
    (subst (λ (w : World). HasComeTo w c new) held.else_same comes)

pub held_all : (mid : World) (c : ℕ) (o : Option ℕ) (t : Bool) → o ≡ next_in mid c → t ≡ is_some o → t ≡ false → next_in mid c ≡ None
held_all mid c o t next some test = sym next ∙ none_of o (sym some ∙ test)

pub held_log : (old mid : World) (c stripe : ℕ) → IsWorldLog old.log → HasHeld old c stripe mid → IsWorldLog mid.log
held_log old mid c stripe is held = subst (λ (w : World). IsWorldLog w.log) (sym held.else_same) (with_holder_right old.log stripe (Some c) is)

pub held_endable : (old mid : World) (c stripe : ℕ) → AreEndable old.members.items → HasHeld old c stripe mid → AreEndable mid.members.items
held_endable old mid c stripe all held =
    subst (λ (w : World). AreEndable w.members.items) (sym held.else_same)
    (endable_set old.members.items c (record held.one { desk = record held.one.desk { stay = stay_begun held.one.desk.stay old.log.epoch } }) all (all c held.one held.there))

-- WHETHER AN EVENT IS ENABLED

pub may_take : (old : World) (c stripe : ℕ) (one : Member) → slice_get old.members.items c ≡ Some one
    → (is_number stripe (next_stripe (state_of old) c (open_call (client (state_of old) c).phase)) && (is_none (get_or old.log.stripes.holders.items stripe None) && are_none one.desk.due.items))
    ≡ is_enabled_for (state_of old) c (client (state_of old) c) (event.Take c stripe)
unfolding state_of
may_take old c stripe one there =
    ap (λ (t : Bool). is_number stripe (next_stripe (state_of old) c (open_call (client (state_of old) c).phase)) && (is_none (get_or old.log.stripes.holders.items stripe None) && t))
    (sym (due_items old c one there))

pub may_fetch : (old : World) (c : ℕ) (one : Member) → slice_get old.members.items c ≡ Some one
    → (not (are_none one.desk.due.items) && holds_none c old.log.stripes.holders.items) ≡ is_enabled_for (state_of old) c (client (state_of old) c) (event.Fetch c)
unfolding state_of
may_fetch old c one there = ap (λ (t : Bool). not t && holds_none c old.log.stripes.holders.items) (sym (due_items old c one there))

pub may_commit : (old : World) (c : ℕ) (one : Member) → slice_get old.members.items c ≡ Some one
    → (is_some (open_call one.peer.phase) && (is_none (next_stripe (state_of old) c (open_call (client (state_of old) c).phase)) && are_none one.desk.due.items))
    ≡ is_enabled_for (state_of old) c (client (state_of old) c) (event.Commit c)
unfolding state_of
may_commit old c one there =
    ap₂ (λ (p t : Bool). p && (is_none (next_stripe (state_of old) c (open_call (client (state_of old) c).phase)) && t))
    (ap (λ (k : ClientState). is_some (open_call k.phase)) (sym (here (state_of old) old.members.items c one refl there).0))
    (sym (due_items old c one there))

pub may_give : (old : World) (c stripe : ℕ) (one : Member) → slice_get old.members.items c ≡ Some one
    → (holds old.log.stripes.holders.items c stripe && (is_none (open_call one.peer.phase) || not (are_none one.desk.due.items)))
    ≡ is_enabled_for (state_of old) c (client (state_of old) c) (event.Give c stripe)
unfolding state_of
may_give old c stripe one there =
    ap₂ (λ (p t : Bool). holds old.log.stripes.holders.items c stripe && (p || not t))
    (ap (λ (k : ClientState). is_none (open_call k.phase)) (sym (here (state_of old) old.members.items c one refl there).0))
    (sym (due_items old c one there))

-- FETCH

-- the places that are due stand
pub due_standing : (places : List (Option Bytes)) (items : List (ℕ × Receipt)) → Each (λ (one : Due). standing places one.place ≡ 1) (map due_of items)
    → Each (λ (read : ℕ × Receipt). standing places read.1.place ≡ 1) items
due_standing places [] each = tt
due_standing places (read ∷ items) each = (each.0, due_standing places items each.1)

pub fetch_standing : TurnLaws → (old : World) (c : ℕ) (one : Member) → IsWorld old → slice_get old.members.items c ≡ Some one
    → Each (λ (read : ℕ × Receipt). standing (places_of old.log.device) read.1.place ≡ 1) one.desk.due.items
unfolding state_of
fetch_standing laws old c one is there =
    due_standing (places_of old.log.device) one.desk.due.items
    (subst (λ (k : ClientState). Each (λ (d : Due). standing (places_of old.log.device) d.place ≡ 1) k.due) (here (state_of old) old.members.items c one refl there).0
    ((laws.places (state_of old) is.sound).due c))

pub handled_fetch : (old : World) (c : ℕ) (one : Member) (desk : Desk) (log : WorldLog) → IsWorld old → slice_get old.members.items c ≡ Some one
    → is_enabled_for (state_of old) c (client (state_of old) c) (event.Fetch c) ≡ true → HasFetched one.desk old.log desk log
    → Handled old c (event.Fetch c) (let w : World = record old { members = with_item old.members c (record one { desk = desk }); log = log } in w)
unfolding state_of
handled_fetch old c one desk log is there enabled has =
    let later : Member = record one { desk = desk } in
    let new : World = record old { members = with_item old.members c later; log = log } in
    let here_is = (here (state_of old) old.members.items c one refl there).0 in
    let fetched_is : client_of later ≡ fetched (client_of one) =
    (λ j. let k : ClientState = record one.peer {
      due = map due_of (has.due j);
      fetched = has.fetched j;
      full = is_full_plan (has.plan j);
      stay = has.stay j;
    } in k) in
    record {
      enabled = enabled;
      does =
          ap (λ (l : List ClientState). (let s : State = record (logs.state_of (rest_of old) log) { clients = l } in s)) (clients_with old.members.items c later)
          ∙ ap (λ (s : State). with_client s c (client_of later)) (has.same (rest_of old))
          ∙ ap (λ (k : ClientState). with_client (state_of old) c k) fetched_is
          ∙ ap (λ (k : ClientState). with_client (state_of old) c (fetched k)) (sym here_is);
      ready = λ other at.
          subst (λ (m : Member). IsSteady m.peer) (some_same (sym (set_here old.members.items c one later there) ∙ at)) (steady_here old c one is there);
      tended = tended_by old new c later (event.Fetch c) refl has.log is has.given
          (record {
            given = subst (Each (λ (read : ℕ × Receipt). IsGiven log.device read.1)) (sym has.due) tt;
            right = has.right;
            few = λ some. absurd (cc (ap are_none (sym has.due) ∙ some));
          })
          (Same one there has.plan tt (subst (StaysRoomy c old.log.stripes) (sym has.stripes) (roomy_same c old.log.stripes)))
          (λ d differ. subst (StaysRoomy d old.log.stripes) (sym has.stripes) (roomy_same d old.log.stripes)) (λ d differ. tt);
    }

-- GIVE

set_own : (members : List Member) (c : ℕ) (one : Member) → slice_get members c ≡ Some one → members ≡ set members c one
set_own [] c one is = refl
set_own (first ∷ members) zero one is = ap (λ (m : Member). m ∷ members) (some_same is)
set_own (first ∷ members) (suc c) one is = ap (λ (l : List Member). first ∷ l) (set_own members c one is)

-- the world where a stripe is free again, and where the client is in no stay
abbrev pub with_free : World → ℕ → World
with_free old stripe = record old { log = record old.log { stripes = with_holder old.log.stripes stripe None } }

abbrev pub with_end : World → (c stripe : ℕ) → Member → World
with_end old c stripe one = record old {
  members = with_item old.members c (record one { desk = record one.desk { stay = None } });
  log = record old.log { stripes = with_holder old.log.stripes stripe None };
}

free_state : (old : World) (c stripe : ℕ) → (is_none (open_call (client (state_of old) c).phase) && holds_none c (set old.log.stripes.holders.items stripe None)) ≡ false
    → state_of (with_free old stripe) ≡ given (state_of old) c (client (state_of old) c) stripe
unfolding state_of
free_state old c stripe is =
    ap (λ (n : ℕ). (let s : State = record (state_of old) {
      holders = set old.log.stripes.holders.items stripe None;
      marks = λ key session. marks_in (slice_get old.log.stripes.lanes.items (stripe_of n key)) key session;
    } in s))
    (length-set old.log.stripes.holders.items stripe None)
    ∙ ap (λ (t : Bool). (let s : State = record (state_of old) {
      holders = set old.log.stripes.holders.items stripe None;
      clients = if t then set (state_of old).clients c (record (client (state_of old) c) { stay = None }) else (state_of old).clients;
    } in s)) (sym is)

end_state : (old : World) (c stripe : ℕ) (one : Member) → slice_get old.members.items c ≡ Some one
    → (is_none (open_call (client (state_of old) c).phase) && holds_none c (set old.log.stripes.holders.items stripe None)) ≡ true
    → state_of (with_end old c stripe one) ≡ given (state_of old) c (client (state_of old) c) stripe
unfolding state_of
end_state old c stripe one there is =
    holder_state old c stripe None (record one { desk = record one.desk { stay = None } })
    ∙ ap (λ (k : ClientState). (let s : State = record (state_of old) {
      holders = set old.log.stripes.holders.items stripe None;
      clients = set (state_of old).clients c (record k { stay = None });
    } in s)) (sym (here (state_of old) old.members.items c one refl there).0)
    ∙ ap (λ (t : Bool). (let s : State = record (state_of old) {
      holders = set old.log.stripes.holders.items stripe None;
      clients = if t then set (state_of old).clients c (record (client (state_of old) c) { stay = None }) else (state_of old).clients;
    } in s)) (sym is)

-- a client that may give a stripe holds it, and has no plan
gives_held : (a b : Bool) → (a && b) ≡ true → (a ≡ true) × (b ≡ true)
gives_held true b is = (refl, is)
gives_held false b is = cc is

given_rooms : (old : World) (c stripe d : ℕ) → d ≢ c → holds old.log.stripes.holders.items c stripe ≡ true
    → StaysRoomy d old.log.stripes (with_holder old.log.stripes stripe None)
given_rooms old c stripe d differ held =
    roomy_holder old.log.stripes d stripe None (held_apart d c (get_or old.log.stripes.holders.items stripe None) (λ same. differ (sym same)) held)

pub handled_free : (old : World) (c stripe : ℕ) (one : Member) → IsWorld old → slice_get old.members.items c ≡ Some one
    → is_enabled_for (state_of old) c (client (state_of old) c) (event.Give c stripe) ≡ true
    → (is_none (open_call one.peer.phase) && holds_none c (set old.log.stripes.holders.items stripe None)) ≡ false
    → Handled old c (event.Give c stripe) (with_free old stripe)
unfolding state_of
handled_free old c stripe one is there enabled kept =
    let parts = gives_held (holds old.log.stripes.holders.items c stripe) _ enabled in
    let nothing = no_plan_giving (state_of old) old.log.stripes c one.desk.plan (is.plans c one there) parts.1 in
    let here_is = (here (state_of old) old.members.items c one refl there).0 in
    record {
      enabled = enabled;
      does = free_state old c stripe (ap (λ (k : ClientState). is_none (open_call k.phase) && holds_none c (set old.log.stripes.holders.items stripe None)) here_is ∙ kept);
      ready = λ other at. subst (λ (m : Member). IsSteady m.peer) (some_same (sym there ∙ at)) (steady_here old c one is there);
      tended = tended_by old (with_free old stripe) c one (event.Give c stripe) (set_own old.members.items c one there) (with_holder_right old.log stripe None is.log) is
          (λ receipt given. given) (is.desks c one there)
          (New refl (subst (IsKept (state_of (with_free old stripe)) (with_holder old.log.stripes stripe None) c) (sym nothing) tt))
          (λ d differ. given_rooms old c stripe d differ parts.0) (λ d differ. tt);
    }

pub handled_end : (old : World) (c stripe : ℕ) (one : Member) → IsWorld old → slice_get old.members.items c ≡ Some one
    → is_enabled_for (state_of old) c (client (state_of old) c) (event.Give c stripe) ≡ true
    → (is_none (open_call one.peer.phase) && holds_none c (set old.log.stripes.holders.items stripe None)) ≡ true
    → Handled old c (event.Give c stripe) (with_end old c stripe one)
unfolding state_of
handled_end old c stripe one is there enabled ends =
    let parts = gives_held (holds old.log.stripes.holders.items c stripe) _ enabled in
    let later : Member = record one { desk = record one.desk { stay = None } } in
    let nothing = no_plan_giving (state_of old) old.log.stripes c one.desk.plan (is.plans c one there) parts.1 in
    let here_is = (here (state_of old) old.members.items c one refl there).0 in
    let right = is.desks c one there in
    record {
      enabled = enabled;
      does = end_state old c stripe one there
          (ap (λ (k : ClientState). is_none (open_call k.phase) && holds_none c (set old.log.stripes.holders.items stripe None)) here_is ∙ ends);
      ready = λ other at.
          subst (λ (m : Member). IsSteady m.peer) (some_same (sym (set_here old.members.items c one later there) ∙ at)) (steady_here old c one is there);
      tended = tended_by old (with_end old c stripe one) c later (event.Give c stripe) refl (with_holder_right old.log stripe None is.log) is
          (λ receipt given. given) (record { given = right.given; right = right.right; few = right.few })
          (New refl (subst (IsKept (state_of (with_end old c stripe one)) (with_holder old.log.stripes stripe None) c) (sym nothing) tt))
          (λ d differ. given_rooms old c stripe d differ parts.0) (λ d differ. tt);
    }

pub given_free : (old : World) (c stripe : ℕ) (one : Member) (stripes : Stripes) (t : Bool) → IsWorld old → slice_get old.members.items c ≡ Some one
    → is_enabled_for (state_of old) c (client (state_of old) c) (event.Give c stripe) ≡ true → stripes ≡ with_holder old.log.stripes stripe None
    → t ≡ (is_none (open_call (client (state_of old) c).phase) && holds_none c stripes.holders.items) → t ≡ false
    → Handled old c (event.Give c stripe) (let w : World = record old { log = record old.log { stripes = stripes } } in w)
unfolding state_of
given_free old c stripe one stripes t is there enabled same ends test =
    let here_is = (here (state_of old) old.members.items c one refl there).0 in
    let kept : (is_none (open_call one.peer.phase) && holds_none c (set old.log.stripes.holders.items stripe None)) ≡ false =
    ap₂ (λ (k : ClientState) (s : Stripes). is_none (open_call k.phase) && holds_none c s.holders.items) (sym here_is) (sym same) ∙ sym ends ∙ test in
    subst (λ (s : Stripes). Handled old c (event.Give c stripe) (record old { log = record old.log { stripes = s } })) (sym same)
    (handled_free old c stripe one is there enabled kept)

pub given_end : (old : World) (c stripe : ℕ) (one : Member) (stripes : Stripes) (desk : Desk) (t : Bool) → IsWorld old → slice_get old.members.items c ≡ Some one
    → is_enabled_for (state_of old) c (client (state_of old) c) (event.Give c stripe) ≡ true → stripes ≡ with_holder old.log.stripes stripe None
    → t ≡ (is_none (open_call (client (state_of old) c).phase) && holds_none c stripes.holders.items) → t ≡ true
    → desk ≡ (let d : Desk = record one.desk { stay = None } in d)
    → Handled old c (event.Give c stripe)
    (let w : World = record old { members = with_item old.members c (record one { desk = desk }); log = record old.log { stripes = stripes } } in w)
unfolding state_of
given_end old c stripe one stripes desk t is there enabled same ends test desks =
    let here_is = (here (state_of old) old.members.items c one refl there).0 in
    let over : (is_none (open_call one.peer.phase) && holds_none c (set old.log.stripes.holders.items stripe None)) ≡ true =
    ap₂ (λ (k : ClientState) (s : Stripes). is_none (open_call k.phase) && holds_none c s.holders.items) (sym here_is) (sym same) ∙ sym ends ∙ test in
    subst (λ (d : Desk). Handled old c (event.Give c stripe) (record old { members = with_item old.members c (record one { desk = d }); log = record old.log { stripes = stripes } })) (sym desks)
    (subst (λ (s : Stripes). Handled old c (event.Give c stripe) (record old { members = with_item old.members c (record one { desk = record one.desk { stay = None } }); log = record old.log { stripes = s } })) (sym same)
    (handled_end old c stripe one is there enabled over))

-- a client that fetches has not done so too often
pub fetch_few : (old : World) (c : ℕ) (one : Member) → IsWorld old → slice_get old.members.items c ≡ Some one
    → is_enabled_for (state_of old) c (client (state_of old) c) (event.Fetch c) ≡ true → one.desk.fetched < ROUNDS
unfolding state_of
fetch_few old c one is there enabled =
    let parts = both_of (not (are_none (client (state_of old) c).due)) _ enabled in
    (is.desks c one there).few (not_some (are_none one.desk.due.items) (ap not (sym (due_items old c one there)) ∙ parts.0))
  where
    not_some : (t : Bool) → not t ≡ true → t ≡ false
    not_some true e = cc e
    not_some false e = refl

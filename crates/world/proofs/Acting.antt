-- An event leaves a world as it is to be: sound, with all that is kept beside the plain state right.
use Rattle.std.proofs.Common.{◌≡◌, ◌∙◌, ℕ, ◌<◌, ◌≤◌, Bool, true, false, ◌&&◌, List, [], ◌∷◌, length, Option, Some, None, refl, sym, ap, ap₂, subst}
use Rattle.std.specs.Prelude.{slice_get, IfOk, OnOk, Result, Ok, Err}
use Rattle.std.proofs.lemmas.Bool.{le-ltb, lt-ltb}
use Rattle.std.proofs.lemmas.List.{length-map}
use Rattle.world_model.specs.Actors.{actor}
use Rattle.world_model.specs.declared.event.Event.{Event}
use Rattle.world_model.specs.declared.event.Event.TheVariants as event
use Rattle.world_log.specs.Given.{StaysGiven}
use Rattle.world_log.specs.Freeing.{HasStepped}
use Rattle.world_log.specs.WorldLogs.{IsWorldLog, KeepsHeld, NoneReleasedAt, Took, stays_of}
use Rattle.world_log.specs.WorldLogs as logs
use Rattle.world_log.specs.declared.logs.WorldLog.{WorldLog}
use Rattle.world_model.specs.Advancing.{Goes, When}
use Rattle.world_model.specs.States.{State, client}
use Rattle.world_model.specs.Enabled.{is_enabled, is_enabled_for, is_enabled_in, is_enabled_of}
use Rattle.world_model.specs.Planned.{IsNoCommitOf}
use Rattle.world_model.specs.Turns.{DoesAndGoes, Turn}
use Rattle.world.specs.Desks.{IsRight, client_of}
use Rattle.world.specs.Laws.{TurnLaws}
use Rattle.world.specs.Tables.{Handled, Handles, HasGoneOn, HasWorked, IsKept, IsWorld, PlanStays, Same, New, rest_of, state_of}
use Rattle.world.specs.declared.member.Member.{Member}
use Rattle.world.specs.declared.world.World.{World}
use Rattle.world.proofs.Coming.{held_roomy}
use Rattle.world.proofs.Moving.{right_kept}
use Rattle.world.proofs.Turning.{kept_goes, kept_still, not_turned, turned}

-- EVENTS OF CLIENTS

pub acted_turn : (old mid new : World) (c : ℕ) (e : Event) → actor e ≡ Some c → c < length old.members.items → Handled old c e mid
    → Goes (state_of mid) c (state_of new) → Turn (state_of old) e (state_of new)
unfolding state_of
acted_turn old mid new c e is below handled goes =
    turned (state_of old) (state_of mid) (state_of new) c e is (rw (length-map old.members.items client_of) below) handled.enabled handled.does goes

some_number : {a b : ℕ} → Option.Some a ≡ Some b → a ≡ b
some_number e = cc e

-- what is kept of a plan is right after it
plan_after : TurnLaws → (old mid new : World) (c d : ℕ) (e : Event) (was one : Member) → actor e ≡ Some c → IsWorld old → Turn (state_of old) e (state_of new)
    → Goes (state_of mid) c (state_of new) → mid.log ≡ new.log → one.desk.plan ≡ was.desk.plan → PlanStays old mid e d was
    → IsKept (state_of new) new.log.stripes d one.desk.plan
unfolding state_of
plan_after laws old mid new c d e was one is world turn goes log plan (Same before at same none rooms) =
    subst (IsKept (state_of new) new.log.stripes d) (sym (plan ∙ same))
    (subst (λ l. IsKept (state_of new) l.stripes d before.desk.plan) log
    (kept_still laws.planned (state_of old) e (state_of new) d old.log.stripes mid.log.stripes before.desk.plan turn none world.sound rooms
    (ap (λ l. length l.stripes.holders.items) (sym log) ∙ rooms.count) (world.plans d before at)))
plan_after laws old mid new c d e was one is world turn goes log plan (New own kept) =
    let same : c ≡ d = some_number (sym is ∙ own) in
    subst (IsKept (state_of new) new.log.stripes d) (sym plan)
    (subst (λ l. IsKept (state_of new) l.stripes d was.desk.plan) log
    (kept_goes (state_of mid) (state_of new) d mid.log.stripes was.desk.plan (subst (λ (n : ℕ). Goes (state_of mid) n (state_of new)) same goes) kept))

pub acted_world : TurnLaws → (old mid new : World) (c : ℕ) (e : Event) → actor e ≡ Some c → c < length old.members.items → IsWorld old → Handled old c e mid
    → Goes (state_of mid) c (state_of new) → HasGoneOn mid new → IsWorld new
acted_world laws old mid new c e is below world handled goes gone =
    let turn = acted_turn old mid new c e is below handled goes in
    let log : mid.log ≡ new.log = sym (ap (λ (w : World). w.log) gone.else_same) in
    record {
      sound = laws.sound (state_of old) (e ∷ []) (state_of new) (state_of new, turn, refl) world.sound;
      order = laws.order (state_of old) (e ∷ []) (state_of new) (state_of new, turn, refl) world.order;
      log = subst IsWorldLog log handled.tended.log;
      desks = λ d one at.
          let was = gone.desks d one at in
          subst (λ k. IsRight new.log.device k) (sym was.2) (subst (λ l. IsRight l.device was.0.desk) log (handled.tended.desks d was.0 was.1));
      plans = λ d one at.
          let was = gone.desks d one at in
          plan_after laws old mid new c d e was.0 one is world turn goes log (ap (λ k. k.plan) was.2) (handled.tended.plans d was.0 was.1);
    }

-- where an event is not enabled
pub not_acted : (old : World) (c : ℕ) (e : Event) → actor e ≡ Some c → is_enabled_for (state_of old) c (client (state_of old) c) e ≡ false
    → Turn (state_of old) e (state_of old)
not_acted old c e is not_allowed = not_turned (state_of old) c e is not_allowed

pub told_nobody : (old : World) (c : ℕ) (e : Event) → actor e ≡ Some c → length old.members.items ≤ c → false ≡ is_enabled (state_of old) e
unfolding state_of
told_nobody old c e is past =
    sym (ap (is_enabled_of (state_of old) e) is
    ∙ ap (λ (b : Bool). b && is_enabled_for (state_of old) c (client (state_of old) c) e)
    (le-ltb c (length (state_of old).clients) (rw (length-map old.members.items client_of) past)))

-- or is of no client
pub nobody_acted : (old : World) (c : ℕ) (e : Event) → actor e ≡ Some c → length old.members.items ≤ c → Turn (state_of old) e (state_of old)
unfolding state_of
nobody_acted old c e is past = rw (sym (told_nobody old c e is past)) refl

-- whether it was enabled
pub told_handled : (done : Bool) (old mid : World) (c : ℕ) (e : Event) → actor e ≡ Some c → c < length old.members.items → Handles done old c e mid
    → done ≡ is_enabled (state_of old) e
unfolding state_of
told_handled done old mid c e is below handled =
    sym (ap (is_enabled_of (state_of old) e) is
    ∙ ap₂ (λ (a b : Bool). a && b) (lt-ltb c (length (state_of old).clients) (rw (length-map old.members.items client_of) below)) (may done handled))
  where
    may : (t : Bool) → Handles t old c e mid → is_enabled_for (state_of old) c (client (state_of old) c) e ≡ t
    may true handled = handled.enabled
    may false handled = handled.0

-- EVENTS OF STRIPES

no_commit : (d : ℕ) (e : Event) → actor e ≡ None → IsNoCommitOf d e
no_commit d (event.Piece c bytes) is = tt
no_commit d (event.Close c) is = tt
no_commit d (event.Take c i) is = tt
no_commit d (event.Commit c) is = absurd (cc is)
no_commit d (event.Fetch c) is = tt
no_commit d (event.Give c i) is = tt
no_commit d (event.Copy i) is = tt
no_commit d (event.Write i) is = tt
no_commit d (event.Install i) is = tt
no_commit d (event.Drop i) is = tt
no_commit d (event.Unlink i) is = tt
no_commit d (event.Retire i) is = tt
no_commit d (event.Drain i) is = tt
no_commit d (event.Release i page) is = tt

pub worked_turn : (old new : World) (e : Event) → actor e ≡ None → new ≡ (let w : World = record old { log = new.log } in w) → HasWorked e old new
    → Turn (state_of old) e (state_of new)
unfolding state_of
worked_turn old new e is same worked =
    let s : State = state_of old in
    subst (λ (w : World). Turn (state_of old) e (state_of w)) (sym same)
    (subst (λ (a : Option ℕ). When (is_enabled_of s e a) (DoesAndGoes s e a (state_of (record old { log = new.log }))) (state_of (record old { log = new.log }) ≡ s)) (sym is) worked.took)

pub worked_world : TurnLaws → (old new : World) (e : Event) → actor e ≡ None → new ≡ (let w : World = record old { log = new.log } in w) → HasWorked e old new → IsWorld old
    → IsWorld new
unfolding state_of
worked_world laws old new e is same worked world =
    let turn = worked_turn old new e is same worked in
    let members : new.members ≡ old.members = ap (λ (w : World). w.members) same in
    record {
      sound = laws.sound (state_of old) (e ∷ []) (state_of new) (state_of new, turn, refl) world.sound;
      order = laws.order (state_of old) (e ∷ []) (state_of new) (state_of new, turn, refl) world.order;
      log = worked.log;
      desks = λ d one at.
          right_kept old.log.device new.log.device one.desk worked.given
          (world.desks d one (subst (λ v. slice_get v.items d ≡ Some one) members at));
      plans = λ d one at.
          kept_still laws.planned (state_of old) e (state_of new) d old.log.stripes new.log.stripes one.desk.plan turn (no_commit d e is) world.sound
          (held_roomy old.log.stripes new.log.stripes d worked.held)
          (ap (λ v. length v.items) worked.held.holders)
          (world.plans d one (subst (λ v. slice_get v.items d ≡ Some one) members at));
    }

-- no receipt that a stripe keeps is of a released place, also where room was made
pub none_stepped : TurnLaws → (world : World) (stays : List (Option ℕ)) (mid : WorldLog) (i : ℕ) → stays ≡ stays_of (rest_of world) → IsWorld world
    → HasStepped stays world.log mid → NoneReleasedAt mid i
unfolding state_of
none_stepped laws world stays mid i same is stepped number place at =
    let steps = stepped.steps (rest_of world) (sym same) in
    (laws.places (logs.state_of (rest_of world) mid)
    (laws.rooms (state_of world) steps.0 (logs.state_of (rest_of world) mid) steps.1 is.sound)).kept i number place at

-- IN THE WORDS OF THE CODE

-- the world with another log
abbrev pub with_world_log : World → WorldLog → World
with_world_log old log = record old { log = log }

pub worked_by : (old : World) (log : WorldLog) (e : Event) → Took (rest_of old) e old.log log → IsWorldLog log → StaysGiven old.log.device log.device
    → KeepsHeld old.log.stripes log.stripes → HasWorked e old (with_world_log old log)
worked_by old log e took right given held = record { took = took; log = right; given = given; held = held }

-- what an event of a stripe did, where it found memory
pub ok_worked : {A E : Type 0} (r : Result A E) (old : World) (log : WorldLog) (e : Event)
    → OnOk r ((rest : State) → Took rest e old.log log) → OnOk r (IsWorldLog log) → OnOk r (StaysGiven old.log.device log.device)
    → OnOk r (KeepsHeld old.log.stripes log.stripes) → OnOk r (HasWorked e old (with_world_log old log))
ok_worked (Ok x) old log e took right given held = worked_by old log e (took (rest_of old)) right given held
ok_worked (Err x) old log e took right given held = tt

-- the same, where clients have these stays
pub ok_stayed : {A E : Type 0} (r : Result A E) (old : World) (log : WorldLog) (e : Event) (stays : List (Option ℕ)) → stays ≡ stays_of (rest_of old)
    → OnOk r ((rest : State) → stays_of rest ≡ stays → Took rest e old.log log) → OnOk r (IsWorldLog log)
    → OnOk r (StaysGiven old.log.device log.device) → OnOk r (KeepsHeld old.log.stripes log.stripes)
    → OnOk r (HasWorked e old (with_world_log old log))
ok_stayed (Ok x) old log e stays are took right given held = worked_by old log e (took (rest_of old) (sym are)) right given held
ok_stayed (Err x) old log e stays are took right given held = tt

pub turn_of : (old : World) (log : WorldLog) (e given : Event) → given ≡ e → actor e ≡ None → HasWorked e old (with_world_log old log)
    → Turn (state_of old) given (state_of (with_world_log old log))
turn_of old log e given is none worked =
    subst (λ (x : Event). Turn (state_of old) x (state_of (with_world_log old log))) (sym is) (worked_turn old (with_world_log old log) e none refl worked)

pub world_of : TurnLaws → (old : World) (log : WorldLog) (e : Event) → actor e ≡ None → HasWorked e old (with_world_log old log) → IsWorld old
    → IsWorld (with_world_log old log)
world_of laws old log e none worked world = worked_world laws old (with_world_log old log) e none refl worked world

-- whether an event of a stripe was enabled
pub told_by : (done : Bool) (old : World) (e given : Event) → given ≡ e → actor e ≡ None
    → ((rest : State) → done ≡ is_enabled_in (logs.state_of rest old.log) e) → done ≡ is_enabled (state_of old) given
unfolding state_of
told_by done old e given is none told =
    told (rest_of old) ∙ sym (ap (is_enabled (state_of old)) is ∙ ap (is_enabled_of (state_of old) e) none)

pub ok_told : {E : Type 0} (r : Result Bool E) (old : World) (e given : Event) → given ≡ e → actor e ≡ None
    → IfOk r (λ done. (rest : State) → done ≡ is_enabled_in (logs.state_of rest old.log) e) → IfOk r (λ done. done ≡ is_enabled (state_of old) given)
ok_told (Ok done) old e given is none told = told_by done old e given is none told
ok_told (Err x) old e given is none told = tt

pub ok_told_drained : {E : Type 0} (r : Result Bool E) (old : World) (i : ℕ) (stays : List (Option ℕ)) → stays ≡ stays_of (rest_of old)
    → IfOk r (λ done. (rest : State) → stays_of rest ≡ stays → done ≡ is_enabled_in (logs.state_of rest old.log) (event.Drain i))
    → IfOk r (λ done. done ≡ is_enabled (state_of old) (event.Drain i))
unfolding state_of
ok_told_drained (Ok done) old i stays are told = told (rest_of old) (sym are)
ok_told_drained (Err x) old i stays are told = tt

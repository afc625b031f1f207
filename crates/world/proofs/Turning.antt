-- What an event leaves of a world, once its client has gone on.
use Rattle.std.proofs.Common.{◌≡◌, ◌∙◌, ℕ, ◌<◌, Bool, true, false, ◌&&◌, List, length, Some, nat_lt, refl, sym, ap, ap₂, subst}
use Rattle.std.proofs.lemmas.Bool.{lt-ltb}
use Rattle.words.specs.declared.reply.Reply.{Reply}
use Rattle.words.specs.Store.{Write}
use Rattle.words.specs.Session.{Asked}
use Rattle.transact.specs.declared.call.Call.{Call}
use Rattle.shards.specs.Rooms.{AreRoomy}
use Rattle.shards.specs.Shards.{logs_of}
use Rattle.connection.specs.Clients.{Progress}
use Rattle.world_log.specs.Stripes.{acts_for, lent}
use Rattle.world_log.specs.Types.{Stripes}
use Rattle.world_model.specs.declared.event.Event.{Event}
use Rattle.world_model.specs.Actors.{actor}
use Rattle.world_model.specs.States.{Phase, Calling, State, client, stripe_count}
use Rattle.world_model.specs.Enabled.{holds_none, is_enabled, is_enabled_for, is_enabled_of}
use Rattle.world_model.specs.Advancing.{When, Goes, is_idle}
use Rattle.world_model.specs.Planned.{IsNoCommitOf, IsPlanned}
use Rattle.world_model.specs.Soundness.{IsSound}
use Rattle.world_model.specs.Turns.{Turn}
use Rattle.world.specs.declared.desk.Plan.{Plan}
use Rattle.world.specs.declared.desk.Plan.TheVariants as plan
use Rattle.world_model.specs.Effects.{Does}
use Rattle.world.specs.Tables.{IsKept, IsMade, IsMet, StaysRoomy}

-- an event that was done, whose client then goes on
pub turned : (before mid after : State) (c : ℕ) (e : Event) → actor e ≡ Some c → c < length before.clients
    → is_enabled_for before c (client before c) e ≡ true → Does before c (client before c) e mid → Goes mid c after
    → Turn before e after
turned before mid after c e is below allowed does goes =
    let enabled : is_enabled before e ≡ true =
    ap (is_enabled_of before e) is ∙ ap₂ (λ (a b : Bool). a && b) (lt-ltb c (length before.clients) below) allowed in
    rw enabled (rw is (mid, does, goes))

-- one that was not enabled
pub not_turned : (before : State) (c : ℕ) (e : Event) → actor e ≡ Some c → is_enabled_for before c (client before c) e ≡ false → Turn before e before
not_turned before c e is not_allowed =
    let enabled : is_enabled before e ≡ false =
    ap (is_enabled_of before e) is ∙ ap (λ (b : Bool). nat_lt c (length before.clients) && b) not_allowed ∙ none (nat_lt c (length before.clients)) in
    rw enabled refl
  where
    none : (a : Bool) → (a && false) ≡ false
    none true = refl
    none false = refl

-- a plan is due still, as `world_model` says it
abbrev pub PlanLaw : Type 0
PlanLaw =
    (before : State) (event : Event) (after : State) (c : ℕ) (call : Call) (asked : Asked) (reply : Reply) (writes : List Write)
    → Turn before event after → IsNoCommitOf c event → IsSound before
    → IsPlanned before c call asked reply writes → IsPlanned after c call asked reply writes

roomy_still : (c n : ℕ) (old new : Stripes) (writes : List Write) → StaysRoomy c old new → AreRoomy n (logs_of (lent (acts_for old c))) writes
    → AreRoomy n (logs_of (lent (acts_for new c))) writes
roomy_still c n old new writes stays roomy i some =
    let one = roomy i some in
    let later = stays.rooms i one.log one.there in
    record { log = later.0; there = later.1; room = later.2 _ one.room }

-- what is kept of a client's plan is right after an event that leaves it
pub kept_still : PlanLaw → (before : State) (e : Event) (after : State) (c : ℕ) (old new : Stripes) (one : Plan) → Turn before e after → IsNoCommitOf c e
    → IsSound before → StaysRoomy c old new → stripe_count after ≡ stripe_count before → IsKept before old c one → IsKept after new c one
kept_still law before e after c old new plan.Nothing turns other sound stays count kept = tt
kept_still law before e after c old new (plan.Made planned) turns other sound stays count kept = record {
  call = kept.call;
  looks = kept.looks;
  asked = kept.asked;
  due = law before e after c kept.call kept.asked planned.reply planned.writes turns other sound kept.due;
  roomy =
      subst (λ (n : ℕ). AreRoomy n (logs_of (lent (acts_for new c))) planned.writes) (sym count)
      (roomy_still c (stripe_count before) old new planned.writes stays kept.roomy);
  fits = kept.fits;
}
kept_still law before e after c old new plan.Full turns other sound stays count kept = record {
  call = kept.call;
  asked = kept.asked;
  reply = kept.reply;
  writes = kept.writes;
  due = law before e after c kept.call kept.asked kept.reply kept.writes turns other sound kept.due;
}

goes_not : (mid after : State) (c : ℕ) (at : Progress) (call : Call) → (client mid c).phase ≡ Calling at call → Goes mid c after → after ≡ mid
goes_not mid after c at call is goes = elim_when (is_idle (client mid c).phase && holds_none c mid.holders) _ _ (busy (client mid c).phase at is) goes
  where
    elim_when : (t : Bool) (P Q : Type 0) → t ≡ false → When t P Q → Q
    elim_when true P Q is goes = absurd (cc is)
    elim_when false P Q is goes = goes

    busy : (phase : Phase) (at : Progress) → phase ≡ Calling at call → (is_idle phase && holds_none c mid.holders) ≡ false
    busy phase at is = ap (λ (p : Phase). is_idle p && holds_none c mid.holders) is

-- a client whose plan is kept does not go on
pub kept_goes : (mid after : State) (c : ℕ) (stripes : Stripes) (one : Plan) → Goes mid c after → IsKept mid stripes c one → IsKept after stripes c one
kept_goes mid after c stripes plan.Nothing goes kept = tt
kept_goes mid after c stripes (plan.Made planned) goes kept =
    let same : after ≡ mid = goes_not mid after c kept.due.calling.0 kept.call kept.due.calling.1 goes in
    subst (λ (s : State). IsMade s stripes c planned) (sym same) kept
kept_goes mid after c stripes plan.Full goes kept =
    let same : after ≡ mid = goes_not mid after c kept.due.calling.0 kept.call kept.due.calling.1 goes in
    subst (λ (s : State). IsMet s c) (sym same) kept

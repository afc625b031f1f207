-- A plan that met a full stripe, and what is planned again.
use Rattle.std.proofs.Common.{◌≡◌, ℕ, ◌<◌, Bool, true, false, List, [], ◌++◌, length, replicate, Option, None, refl, sym, subst}
use Rattle.std.specs.Bool.{OnFalse, OnTrue}
use Rattle.transact.specs.declared.call.Call.{Call}
use Rattle.transact.specs.Submits.{stripes_asked}
use Rattle.transact.specs.Tables.{stays}
use Rattle.world_log.specs.Freeing.{HasFreed, HasStepped, waiting_in}
use Rattle.world_log.specs.PlanLaws.{IsMade, with_parts}
use Rattle.world_log.specs.Stripes.{acts_for, holders_of}
use Rattle.world_log.specs.WorldLogs.{IsWorldLog, state_of}
use Rattle.world_log.specs.Types.{Stripes}
use Rattle.world_log.specs.declared.logs.WorldLog.{WorldLog}
use Rattle.world_model.specs.Enabled.{first_missing}
use Rattle.world_model.specs.Rooms.{StepsAll}
use Rattle.world_model.specs.States.{State, start}
use Rattle.world.specs.Laws.{PlanLaws}
use Rattle.world.specs.Planning.{HasMet}
use Rattle.world.proofs.Coming.{met_full, steps_both, still}
use Rattle.world.proofs.Installing.{even_acts}

-- STEPS, ONE AFTER THE OTHER

pub stepped_both : (held : List (Option ℕ)) (old mid new : WorldLog) → HasStepped held old mid → HasStepped held mid new → HasStepped held old new
stepped_both held old mid new one two = record {
  log = two.log;
  steps = λ rest same.
      let first = one.steps rest same in
      let second = two.steps rest same in
      (first.0 ++ second.0, steps_both (state_of rest old) first.0 (state_of rest mid) second.0 (state_of rest new) first.1 second.1);
}

pub stepped_none : (held : List (Option ℕ)) (old : WorldLog) → IsWorldLog old → HasStepped held old old
stepped_none held old is = record { log = is; steps = λ rest same. ([], refl) }

pub stepped_free : (held : List (Option ℕ)) (i : ℕ) (old new : WorldLog) → HasFreed held i old new → HasStepped held old new
stepped_free held i old new freed = record { log = freed.log; steps = λ rest same. (replicate freed.count i, freed.steps rest same) }

-- A PLAN THAT MET A FULL STRIPE

module _ (laws : PlanLaws) (old : WorldLog) (c : ℕ) (call : Call) (i : ℕ) (new : WorldLog) (is : IsWorldLog old) (has : HasMet old c call i new) where
  room_of : (rest : State) → IsMade rest old (with_parts old new.stripes new.device) has.meets.writes
  room_of rest =
      (met_full laws rest old c new.stripes has.read new.device has.meets.writes i is has.reads has.keeps
      (laws.values_same (acts_for old.stripes c) new.stripes stays (even_acts old.stripes c is.even) has.keeps still has.became)
      has.meets.written has.meets.below has.meets.made has.meets.full).0

  -- its log is right
  pub met_right : IsWorldLog new
  met_right = subst IsWorldLog (sym has.else_same) (room_of (start 0 0 0 0)).log

  -- pages alone left
  pub met_stepped : (now : List (Option ℕ)) → HasStepped now old new
  met_stepped now = record {
    log = met_right;
    steps = λ rest same. (
      (room_of rest).stripes,
      subst (λ (l : WorldLog). StepsAll (state_of rest old) (room_of rest).stripes (state_of rest l)) (sym has.else_same) (room_of rest).sheds,
    );
  }

  -- as many places wait
  pub met_waits : waiting_in new.stripes ≡ waiting_in old.stripes
  met_waits = laws.waits (acts_for old.stripes c) new.stripes has.keeps

  pub met_within : i < length (holders_of new.stripes)
  met_within = subst (λ v. i < length v.items) (sym has.keeps.holders) has.meets.below

-- who holds which is the same
pub held_all : (old new : Stripes) (c : ℕ) (call : Call) → new.holders ≡ old.holders
    → first_missing (holders_of old) c (stripes_asked (length (holders_of old)) call) ≡ None
    → first_missing (holders_of new) c (stripes_asked (length (holders_of new)) call) ≡ None
held_all old new c call same all =
    subst (λ v. first_missing v.items c (stripes_asked (length v.items) call) ≡ None) (sym same) all

-- IN THE WORDS OF THE CODE

pub is_false : {P : Type 0} (t : Bool) → t ≡ false → OnFalse t P → P
is_false true same is = absurd (cc same)
is_false false same is = is

pub is_true : {P : Type 0} (t : Bool) → t ≡ true → OnTrue t P → P
is_true true same is = is
is_true false same is = absurd (cc same)

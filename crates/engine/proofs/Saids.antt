-- Transactions of GETs.
use Rattle.std.proofs.Common.{ℕ, Bool, List, [], ◌∷◌, ◌++◌, ◌≡◌, ◌∙◌, refl, sym, ap, Option, Some, None, IfSome, IfNone, OnSome, Result, false}
use Rattle.words.specs.declared.reply.Fault.{Fault}
use Rattle.words.specs.Store.{Bytes}
use Rattle.words.specs.Watches.{touched}
use Rattle.gates.specs.Rule.{Meaning}
use Rattle.gates.specs.declared.held.Held.{Held}
use Rattle.gates.specs.declared.report.Report.TheVariants.{Nothing}
use Rattle.gates.specs.Helds.{known_to}
use Rattle.transact.specs.declared.call.Call.{Call}
use Rattle.transact.specs.Tables.{AreThere, Became, clears, touches_and_clears}
use Rattle.shards.specs.declared.shard.Shard.{Shard}
use Rattle.epoch.specs.declared.view.View.{View}
use Rattle.engine.specs.declared.enter.Entered.{Entered}
use Rattle.engine.specs.declared.exec.Came.{Came}
use Rattle.engine.specs.declared.exec.Came.TheVariants as came
use Rattle.engine.specs.declared.say.Spoken.{Spoken}
use Rattle.engine.specs.Answers.{IsAnswered}
use Rattle.engine.specs.Calls.{promises_of}
use Rattle.engine.specs.Entering.{HasEntered, MayBeGiven, given}
use Rattle.engine.specs.Got.{IfSaid, as_spoke, spoken_answer}
use Rattle.engine.specs.Passes.{know}
use Rattle.engine.specs.Stops.{HasHeardFor}

-- where a call has said its reply, what holds in any case
pub said_then : (told : Came) (P : Type 0) → P → IfSaid told P
said_then (came.Said said) P holds = holds
said_then (came.Answered answered) P holds = tt

-- of something and of nothing, what follows
pub none_then : {A : Type 0} (result : Option A) (P Q : Type 0) → (P → Q) → IfNone result P → IfNone result Q
none_then None P Q turn has = turn has
none_then (Some a) P Q turn has = tt

pub some_then : {A : Type 0} (result : Option A) (P Q : A → Type 0) → ((a : A) → P a → Q a) → IfSome result P → IfSome result Q
some_then (Some a) P Q turn has = turn a has
some_then None P Q turn has = tt

pub some_both : {A : Type 0} (result : Option A) (P Q : A → Type 0) (S : Type 0) → ((a : A) → P a → Q a → S) → IfSome result P → IfSome result Q → OnSome result S
some_both (Some a) P Q S turn has is = turn a has is
some_both None P Q S turn has is = tt

-- What a transaction of GETs came to, told of one too that was not answered.
pub spoke_some : (entered : Option (Entered (Result Spoken Fault))) (P : Result Spoken Fault → Type 0) → IfSome entered (λ e. P e.answer) → IfSome (as_spoke entered).answer P
spoke_some (Some entered) P has = has
spoke_some None P has = tt

pub spoke_none : (entered : Option (Entered (Result Spoken Fault))) (P : Type 0) → IfNone entered P → IfNone (as_spoke entered).answer P
spoke_none (Some entered) P has = tt
spoke_none None P has = has

pub spoke_heard : (entered : Option (Entered (Result Spoken Fault))) (view : View) → IfSome entered (λ e. HasHeardFor spoken_answer e view view)
    → IfSome (as_spoke entered).answer (λ spoken. HasHeardFor spoken_answer (record { answer = spoken; ends = (as_spoke entered).ends; report = (as_spoke entered).report }) view view)
spoke_heard (Some entered) view has = has
spoke_heard None view has = tt

module _ {R : Type 0} (steady lends : Type 0) (n : ℕ) (call : Call) (start mid : Held (Shard R)) where
  pub spoke_back : (entered : Option (Entered (Result Spoken Fault))) (f : ℕ) → IfSome entered (HasEntered (promises_of steady lends n) call spoken_answer (start, f) (mid, f))
      → IfNone entered (MayBeGiven steady false Nothing start mid) → MayBeGiven steady (as_spoke entered).ends (as_spoke entered).report start mid
  spoke_back (Some entered) f some none = some.back
  spoke_back None f some none = none

  pub spoke_answered : (entered : Option (Entered (Result Spoken Fault))) (f : ℕ) → IfSome entered (HasEntered (promises_of steady lends n) call spoken_answer (start, f) (mid, f))
      → IfSome (as_spoke entered).answer (λ spoken. IsAnswered (promises_of steady lends n) [] call (spoken_answer spoken) (know (known_to start) f)
      (know (given (as_spoke entered).ends (as_spoke entered).report (known_to mid)) f))
  spoke_answered (Some entered) f some = some.answered
  spoke_answered None f some = tt

  pub spoke_kept : (entered : Option (Entered (Result Spoken Fault))) → IfNone entered (known_to mid ≡ known_to start)
      → IfNone (as_spoke entered).answer (given (as_spoke entered).ends (as_spoke entered).report (known_to mid) ≡ known_to start)
  spoke_kept (Some entered) none = tt
  spoke_kept None none = none

untouched : (mark : Option Bool) → touched false mark ≡ mark
untouched None = refl
untouched (Some mark) = refl

module _ {T : Type 0} (n : ℕ) where
  -- there are parts for the first of keys, and for the last
  pub there_first : (parts : ℕ → Option T) (first last : List Bytes) → AreThere n parts (first ++ last) → AreThere n parts first
  there_first parts [] last there = tt
  there_first parts (key ∷ first) last there = (there.0, there_first parts first last there.1)

  pub there_last : (parts : ℕ → Option T) (first last : List Bytes) → AreThere n parts (first ++ last) → AreThere n parts last
  there_last parts [] last there = there
  there_last parts (key ∷ first) last there = there_last parts first last there.1

  -- where watches end and nothing is written
  pub ended_unwritten : (contents : Meaning T) (own : ℕ) (keys : List Bytes) (before later : ℕ → Option T) → Became contents n [] (clears own keys) before later
      → Became contents n [] (touches_and_clears [] own keys) before later
  ended_unwritten contents own keys before later became = record {
    there = became.there;
    was = λ i part is.
        let was = became.was i part is in (
          was.0,
          was.1,
          record {
            here = was.2.here;
            away = was.2.away;
            marks = λ key number here. was.2.marks key number here ∙ ap (λ (mark : Option Bool). clears own keys key number mark) (sym (untouched (contents.marks was.0 key number)));
            aside = was.2.aside;
          },
        );
  }

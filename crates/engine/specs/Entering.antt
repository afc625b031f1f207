-- Calls that are entered over the stripes that a pass holds.
use Rattle.std.specs.Prelude.{ℕ, ◌≡◌, Bool, false, List, [], Result, Ok, Err, Some}
use Rattle.words.specs.Briefs.{commanded, pairs_of}
use Rattle.words.specs.Store.{Bytes}
use Rattle.words.specs.declared.reply.Fault.{Fault}
use Rattle.words.specs.declared.reply.Line.{Line}
use Rattle.words.specs.declared.reply.Reply.{Reply}
use Rattle.words.specs.Session.{Asked, Run, value_reply, values_reply, watched_at_fault}
use Rattle.words.specs.declared.command.Command.{Command}
use Rattle.words.specs.Commands.{set_with}
use Rattle.words.specs.declared.command.Command.TheVariants.{Get, MGet, MSet, Set}
use Rattle.words.specs.declared.command.When.TheVariants.{Always}
use Rattle.gates.specs.declared.held.Held.{Held}
use Rattle.gates.specs.declared.report.Report.{Report}
use Rattle.gates.specs.declared.view.Knowledge.{Knowledge}
use Rattle.gates.specs.declared.report.Report.TheVariants as report
use Rattle.gates.specs.Background.{IsToldOf, notes_of}
use Rattle.gates.specs.Sets.{AreBelow, part_at}
use Rattle.gates.specs.declared.gates.Gates.{Gates}
use Rattle.gates.specs.declared.gates.Pass.{Pass}
use Rattle.gates.specs.Passes.{AllFit, AreAsTaken, IsResting, Learned, MayEnd, ToldBusy, known}
use Rattle.gates.specs.Plays.{kept}
use Rattle.gates.specs.Helds.{IsOpen, borrow_of, gates_of, has_committed, held_parts, held_stripes, held_taken, known_to, operation_asked}
use Rattle.words.specs.declared.history.Operation.{Operation}
use Rattle.hybrid.specs.Staging.{AreRight}
use Rattle.transact.specs.declared.call.Answer.{Answer}
use Rattle.transact.specs.declared.call.Answer.TheVariants as answer
use Rattle.transact.specs.declared.call.Call.{Call}
use Rattle.transact.specs.declared.call.Call.TheVariants.{One}
use Rattle.transact.specs.Calls.{answer_of, asked_of, call_keys}
use Rattle.transact.specs.Plans.{EndsAll, IsEntry, IsPlan}
use Rattle.transact.specs.Submits.{asked_for, stripes_asked}
use Rattle.transact.specs.Tables.{AreThere}
use Rattle.shards.specs.declared.shard.Shard.{Shard}
use Rattle.shards.specs.Shards.{shard_meaning}
use Rattle.plans.specs.declared.hands.Hands.{Hands}
use Rattle.plans.specs.declared.placing.Placed.{Placed}
use Rattle.plans.specs.Placing.{IsPlacedFor}
use Rattle.engine.specs.declared.enter.Entered.{Entered}
use Rattle.engine.specs.Answers.{IsAnswered}
use Rattle.engine.specs.Calls.{HasItsPlace, Promises}
use Rattle.engine.specs.Memory.{get_call, one_call, set_call, settings_call, values_call}
use Rattle.engine.specs.Passes.{know}
use Rattle.engine.specs.declared.assign.Assigning.{Assigning}
use Rattle.engine.specs.declared.enter.Stopped.{Stopped}
use Rattle.engine.specs.declared.one.Commanding.{Commanding}
use Rattle.engine.specs.declared.one.Does.{Does}
use Rattle.engine.specs.declared.one.Does.TheVariants as does
use Rattle.engine.specs.declared.one.Doing.{Doing}
use Rattle.engine.specs.declared.get.Found.{Found}
use Rattle.engine.specs.declared.get.Getting.{Getting}
use Rattle.engine.specs.declared.set.Setting.{Setting}
use Rattle.engine.specs.declared.gather.Reading.{Reading}
use Rattle.engine.specs.declared.gather.Told.{Told}
use Rattle.engine.specs.declared.gather.Gathered.{Gathered}
use Rattle.engine.specs.declared.gather.Gathered.TheVariants as gathered

-- an answer, told as it is
abbrev pub own_answer : Answer → Answer
own_answer answer = answer

-- what a SET without an option asks
abbrev pub setting_asked : Setting → Asked
setting_asked setting = Run (Set setting.key.now setting.value.now Always)

-- the call that a SET without an option stands for
abbrev pub setting_call : Setting → Call
setting_call setting = set_call setting.key.now setting.value.now

-- what a GET asks
abbrev pub getting_asked : Getting → Asked
getting_asked getting = Run (Get getting.key.now)

-- the call that a GET stands for
abbrev pub getting_call : Getting → Call
getting_call getting = get_call getting.key.now

-- the command that a command of one key is
abbrev pub command_asked : Commanding → Command
command_asked asks = commanded asks.verb asks.key.now asks.value.now

-- the call that it stands for
abbrev pub one_call_of : Commanding → Call
one_call_of asks = one_call asks.verb asks.key.now asks.value.now

-- the command that does so to a key, where it is given this value
abbrev pub command_by : Does → (key value : Bytes) → Command
command_by (does.Verb verb) key value = commanded verb key value
command_by (does.Set when gets) key value = set_with key value (Some (when, gets))

-- the command of one key that is carried out
abbrev pub command_done : Doing → Command
command_done doing = command_by doing.does doing.key.now doing.value.now

-- what it asks
abbrev pub doing_asked : Doing → Asked
doing_asked doing = Run (command_done doing)

-- the call that it stands for
abbrev pub doing_call : Doing → Call
doing_call doing = One (command_done doing)

-- what a call came to that was answered so, or by a fault
abbrev pub came_to : Reply → Result (Unit {0}) Stopped → Entered Answer
came_to reply (Ok done) = record { answer = answer.Reply reply; ends = false; report = report.Nothing }
came_to reply (Err stopped) = record { answer = answer.Fault stopped.fault; ends = false; report = stopped.report }

-- what a call came to that is answered by a line or by a fault, and tells this
abbrev pub line_came_to : Result Line Fault → Report → Entered Answer
line_came_to told says = record { answer = answer_of told; ends = false; report = says }

-- what an MGET asks
abbrev pub reading_asked : Reading → Asked
reading_asked reading = Run (MGet reading.keys.now)

-- the call that an MGET stands for
abbrev pub reading_call : Reading → Call
reading_call reading = values_call reading.keys.now

-- what is said to an MGET that found this
abbrev pub told_reply : Told → Reply
told_reply told = values_reply told.values.now

-- the answer that an MGET's values stand for
abbrev pub values_answer : Gathered → Answer
values_answer (gathered.Found items) = answer.Reply (values_reply items)
values_answer (gathered.Planned told) = told

-- what a call came to that was planned, as what an MGET came to
abbrev pub as_planned : Entered Answer → Entered Gathered
as_planned entered = record { answer = gathered.Planned entered.answer; ends = entered.ends; report = entered.report }

-- what an MSET asks
abbrev pub assigning_asked : Assigning → Asked
assigning_asked assigning = Run (MSet (pairs_of assigning.words.now))

-- the call that an MSET stands for
abbrev pub assigning_call : Assigning → Call
assigning_call assigning = settings_call assigning.words.now

-- what is said to a GET that found this
abbrev pub found_reply : Found → Reply
found_reply found = value_reply found.value.now

-- what a pass of the gates knows once what it asked is answered by a fault: a transaction ends its watches
abbrev pub at_fault : Asked → Knowledge → Knowledge
at_fault asked knows = record knows { watched = watched_at_fault knows.watched asked }

-- what a pass of the gates knows once it has given its stripes back with a report, and with an end of all that it watches or without
abbrev pub given : (ends : Bool) → Report → Knowledge → Knowledge
given ends report knows = kept ends (notes_of report) knows

-- A call that is planned: it makes an entry, and is no SET without an option.
pub record IsPlanned (call : Call) : Type 0 where
  pub entry : IsEntry call
  pub other : (key value : Bytes) → call ≡ set_call key value → ⊥

module _ {R : Type 0} where
  -- the operation that a SET without an option is, for the pass that holds
  abbrev pub asks_set : Held (Shard R) → (key value : Bytes) → Operation
  asks_set held key value = operation_asked held (asked_for (set_call key value))

  -- What is held before a call is entered: the stripes of the call's keys are held, each part fits, and nothing was committed since they were
  -- taken.
  pub record MayEnter (steady : Type 0) (call : Call) (held : Held (Shard R)) : Type 0 where
    pub is_open : IsOpen steady held
    pub fresh : has_committed held ≡ false
    pub there : AreThere (held_stripes held) (part_at (held_parts held)) (call_keys call)
    pub fit : AllFit (shard_meaning steady) (held_stripes held) (known_to held) (held_taken held) (held_parts held)

  -- What is held after it: the same stripes by the same pass, and they may be given back, with this report, and with or without an end of all
  -- that it watches.
  pub record MayBeGiven (steady : Type 0) (ends : Bool) (report : Report) (before later : Held (Shard R)) : Type 0 where
    pub is_open : IsOpen steady later
    pub gates : gates_of later ≡ gates_of before
    pub pass : borrow_of later ≡ borrow_of before
    pub keys : MayEnd ends (held_stripes before) (held_parts later) (known_to later).watched
    pub told : IsToldOf (shard_meaning steady) (held_taken later) (held_parts later) report
    pub fit : AllFit (shard_meaning steady) (held_stripes before) (kept ends [] (known_to later)) (held_taken later) (held_parts later)

  -- What is held before a call begins: it may be entered, and parts are as they were lent; what the call asks has its place in the history, and
  -- it ends all that its pass watches.
  pub record MayBegin (steady : Type 0) (call : Call) (held : Held (Shard R)) : Type 0 where
    pub may : MayEnter steady call held
    pub lent : AreAsTaken (held_taken held) (held_parts held)
    pub place : HasItsPlace (known_to held).watched (asked_of call)
    pub ends : EndsAll call (known_to held).watched

  -- Hands with which a call is entered: who retires is one of some epochs, and over a steady device the pages are right that they have read.
  pub record AreReady {S : Type 0} (IsOwn : S → Type 0) (steady : Type 0) (hands : Hands R S) : Type 0 where
    pub own : IsOwn hands.own
    pub right : steady → AreRight hands.staged

  -- A call was entered: it was answered so, and what is held may be given back with its report. What is held is taken together with how many
  -- calls of the device have failed. `says` tells an answer.
  pub record HasEntered {A : Type 0} (promises : Promises) (call : Call) (says : A → Answer) (before later : Held (Shard R) × ℕ) (entered : Entered A) : Type 0 where
    pub back : MayBeGiven promises.steady entered.ends entered.report before.0 later.0
    pub answered : IsAnswered promises [] call (says entered.answer) (know (known_to before.0) before.1)
        (know (given entered.ends entered.report (known_to later.0)) later.1)

  -- A call wants pages that it may not read while it holds, and receipts do not lend them. Nothing has changed, and what is held may be given
  -- back. No call of the device has failed.
  pub record WasCold (steady lends : Type 0) (call : Call) (before later : Held (Shard R) × ℕ) : Type 0 where
    pub back : MayBeGiven steady false report.Nothing before.0 later.0
    pub known : known_to later.0 ≡ known_to before.0
    pub unlent : lends → ⊥
    pub planned : IsPlanned call
    pub no_fault : later.1 ≡ before.1

  -- What a call comes to whose writes wait for nothing is due to it, for the pass that holds.
  abbrev pub IsPlacedOn : (steady : Type 0) → Call → Held (Shard R) → Placed → Type 0
  IsPlacedOn steady call held placed =
      IsPlacedFor (λ said writes. steady → IsPlan (known_to held).seen (operation_asked held (asked_for call)) said writes) (held_stripes held)
      (part_at (held_parts held)) placed

  -- A pass that holds nothing may submit a call: what it asks has its place in the history, and it ends all that the pass watches.
  pub record MaySubmit (steady : Type 0) (gates : Gates (Shard R)) (call : Call) (pass : Pass (Shard R)) : Type 0 where
    pub rests : IsResting steady gates pass
    pub place : HasItsPlace (known pass).watched (asked_of call)
    pub ends : EndsAll call (known pass).watched

-- the stripes of a call's keys, in order
pub record AreStripesOf (n : ℕ) (call : Call) (wanted : List ℕ) : Type 0 where
  pub are : wanted ≡ stripes_asked n call
  pub below : AreBelow n wanted

-- A pass gave its stripes back, and no call was answered: it learned what others did, and was told of these stripes alone that others had them.
-- What it knows is taken together with how many calls of its device have failed: none since.
pub record HasWaited (stripes : List ℕ) (before later : Knowledge × ℕ) : Type 0 where
  pub learned : Learned before.0 later.0
  pub told : ToldBusy stripes before.0 later.0
  pub no_fault : later.1 ≡ before.1

-- What a pass knows once a call of it is answered by a fault that came while it held nothing: it took the stripes once more.
pub record WasAbandoned (stripes : List ℕ) (asked : Asked) (before later : Knowledge) : Type 0 where
  pub taken : Knowledge
  pub learned : Learned before taken
  pub told : ToldBusy stripes before taken
  pub is : later ≡ at_fault asked taken

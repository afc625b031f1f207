-- Plans that were not made, as calls are answered then, and what the epochs told of it.
use Rattle.std.specs.Prelude.{◌≡◌, ℕ, List, ◌∷◌, ◌++◌, true, Result, Ok, Err}
use Rattle.epoch.specs.declared.view.View.{View}
use Rattle.words.specs.declared.reply.Fault.{Fault}
use Rattle.words.specs.declared.reply.Fault.TheVariants as fault
use Rattle.gates.specs.declared.view.Knowledge.{Knowledge}
use Rattle.gates.specs.declared.view.Note.{Note}
use Rattle.gates.specs.declared.view.Note.TheVariants.{Full}
use Rattle.gates.specs.declared.view.Refused.{Refused}
use Rattle.gates.specs.declared.report.Report.{Report}
use Rattle.gates.specs.declared.report.Report.TheVariants as report
use Rattle.gates.specs.Passes.{known}
use Rattle.shards.specs.Heard.{HasHeard, HasHeardWorn}
use Rattle.plans.specs.declared.stop.Stop.{Stop}
use Rattle.plans.specs.declared.stop.Stop.TheVariants as stop
use Rattle.transact.specs.declared.call.Answer.{Answer}
use Rattle.transact.specs.declared.call.Answer.TheVariants as answer
use Rattle.engine.specs.declared.enter.Entered.{Entered}
use Rattle.engine.specs.declared.enter.Stopped.{Stopped}
use Rattle.engine.specs.declared.pass.Pass.{Pass}
use Rattle.engine.specs.Passes.{OfSeats}

module _ {R : Type 0} where
  -- the fault by which a call is answered whose plan was not made. (No call is answered where pages are wanted: they are read.)
  abbrev pub fault_of : Stop R → Fault
  fault_of stop.OutOfMemory = fault.OutOfMemory
  fault_of stop.DeviceFault = fault.DeviceFault
  fault_of (stop.StoreFull stripe) = fault.StoreFull
  fault_of (stop.Cold receipts) = fault.OutOfMemory

  -- what is told then where its stripes are given back, if the epochs have refused this
  abbrev pub report_of : Stop R → Refused → Report
  report_of stop.OutOfMemory refused = report.Nothing
  report_of stop.DeviceFault refused = report.Nothing
  report_of (stop.StoreFull stripe) refused = report.Full stripe refused
  report_of (stop.Cold receipts) refused = report.Nothing

-- where a fault says that a stripe is full, or that a call of the device failed, this
abbrev pub IfLacking : Fault → Type 0 → Type 0
IfLacking fault.OutOfMemory P = Unit {0}
IfLacking fault.DeviceFault P = P
IfLacking fault.StoreFull P = P
IfLacking fault.CommitsWornOut P = Unit {0}

-- where a report says that a stripe is full, this of what the epochs refused
abbrev pub IfSpent : Report → (Refused → Type 0) → Type 0
IfSpent report.Nothing P = Unit {0}
IfSpent (report.Full stripe refused) P = P refused
IfSpent (report.Idle stripe work) P = Unit {0}
IfSpent (report.Done stripe work) P = Unit {0}
IfSpent (report.Seen stripe look) P = Unit {0}

-- it is a report of a call: nothing, or that a stripe is full
abbrev pub IsOfCall : Report → Type 0
IsOfCall report.Nothing = Unit {0}
IsOfCall (report.Full stripe refused) = Unit {0}
IsOfCall (report.Idle stripe work) = ⊥
IsOfCall (report.Done stripe work) = ⊥
IsOfCall (report.Seen stripe look) = ⊥

-- where the epochs refused to retire, their seat was told last that their word is worn out
abbrev pub IsWornBy : (before later : View) → Refused → Type 0
IsWornBy before later refused = refused.retire ≡ true → HasHeardWorn before later

-- it is a report of a full stripe
abbrev pub IsOfFull : Report → Type 0
IsOfFull report.Nothing = ⊥
IsOfFull (report.Full stripe refused) = Unit {0}
IsOfFull (report.Idle stripe work) = ⊥
IsOfFull (report.Done stripe work) = ⊥
IsOfFull (report.Seen stripe look) = ⊥

-- where a call is answered that the store is full, its report is of a full stripe
abbrev pub TellsFull : Answer → Report → Type 0
TellsFull (answer.Reply reply) told = Unit {0}
TellsFull (answer.Fault fault.OutOfMemory) told = Unit {0}
TellsFull (answer.Fault fault.DeviceFault) told = Unit {0}
TellsFull (answer.Fault fault.StoreFull) told = IsOfFull told
TellsFull (answer.Fault fault.CommitsWornOut) told = Unit {0}

-- how a command of one key is answered that could not be committed
abbrev pub worn_out : Stopped
worn_out = record { fault = fault.CommitsWornOut; report = report.Nothing }

-- A call was entered: what a seat of the epochs was told before stands. Where its report says that a stripe is full, and that the epochs
-- refused to retire, the seat was told last that their word is worn out; and where it is answered that the store is full, its report says
-- which stripe is. `says` tells an answer.
pub record HasHeardFor {A : Type 0} (says : A → Answer) (entered : Entered A) (before later : View) : Type 0 where
  pub heard : HasHeard before later
  pub worn : IfSpent entered.report (IsWornBy before later)
  pub full : TellsFull (says entered.answer) entered.report

-- the same of a call that may want pages: then what the seat was told before stands
abbrev pub HasHeardIn : {A E : Type 0} (says : A → Answer) → Result (Entered A) E → (before later : View) → Type 0
HasHeardIn says (Ok entered) before later = HasHeardFor says entered before later
HasHeardIn says (Err receipts) before later = HasHeard before later

-- A pass and a seat of the epochs: what each was told before stands. Where the pass was told last, and since, that a stripe is full, and
-- that the epochs refused to retire, the seat was told last, and since, that their word is worn out.
pub record HasHeardWith (was now : Knowledge) (before later : View) : Type 0 where
  pub told : (more : List Note) × (now.notes ≡ more ++ was.notes)
  pub heard : HasHeard before later
  pub worn : (stripe : ℕ) (refused : Refused) (more : List Note) → now.notes ≡ Full stripe refused ∷ (more ++ was.notes)
      → IsWornBy before later refused

-- the same of a pass of an engine and of its own seat
abbrev pub HasHeardBy : {D R : Type 0} → (was now : Pass D R) → Type 0
HasHeardBy was now = OfSeats (HasHeardWith (known was.gates) (known now.gates)) was.hands now.hands

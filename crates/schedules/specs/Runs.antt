-- What running a schedule comes to.
use Rattle.std.specs.Prelude.{ℕ, ◌≡◌, ◌⊎◌, ◌<◌, ⊤, List, [], ◌++◌, length, Result, Ok, Err}
use Rattle.words.specs.declared.limits.Limits.{Limits}
use Rattle.words.specs.Store.{Bytes}
use Rattle.streams.specs.declared.observed.Told.{Told}
use Rattle.streams.specs.declared.observed.Told.TheVariants as told
use Rattle.world_model.specs.declared.event.Event.{Event}
use Rattle.world_model.specs.States.{State, start}
use Rattle.world_model.specs.Resting.{AreOfCalls, Finishes, IsAtRest}
use Rattle.world_model.specs.Turns.{Turns}
use Rattle.world_model.specs.Told.{Headline}
use Rattle.schedules.specs.declared.fault.ReplayFault.{ReplayFault}
use Rattle.schedules.specs.declared.fault.ReplayFault.TheVariants.{CannotRead, BadLine, OutOfMemory, CannotWrite}
use Rattle.schedules.specs.Schedules.{IsSchedule, IsBadLine}
use Rattle.schedules.specs.Reports.{report_of}
use Rattle.schedules.specs.Traces.{IsTraced, RestsBy}
use Rattle.schedules.specs.declared.until.Until.{Until}
use Rattle.schedules.specs.declared.until.Until.TheVariants.{Done, Rest}
use Rattle.schedules.specs.declared.run.Shown.{Shown}
use Rattle.schedules.specs.declared.run.Shown.TheVariants.{Report, Trace}

-- The events, in order, lead a world of these limits from its beginning to a state of which the headline holds, and this is its report.
pub record IsOutcome (limits : Limits) (events : List Event) (report : Bytes) : Type 0 where
  pub state : State
  pub turns : Turns (start limits.stripes limits.clients limits.frames limits.places) events state
  pub headline : Headline state
  pub told : report ≡ report_of state

-- What is done behind a schedule's events: nothing; or events of calls, until each client rests.
abbrev pub HasEnded : Until → (before after : State) → Type 0
HasEnded Done before after = after ≡ before
HasEnded Rest before after = (events : List Event) × Finishes before events after

-- the same, and these lines are added to a text, the first of which has this number
abbrev pub HasGoneOn : Until → (number : ℕ) → (before after : State) → (old new : Bytes) → Type 0
HasGoneOn Done number before after old new = (after ≡ before) × (new ≡ old)
HasGoneOn Rest number before after old new = RestsBy number before after old new

-- All events that were done in a run that came to this state: the schedule's; or behind them events of calls, and each client rests.
abbrev pub AreAll : Until → (own all : List Event) → State → Type 0
AreAll Done own all state = all ≡ own
AreAll Rest own all state =
    (more : List Event) × (all ≡ own ++ more) × AreOfCalls more × ((c : ℕ) → c < length state.clients → IsAtRest state c)

-- this is the report of a run of these events, until then
abbrev pub IsReported : Until → Limits → List Event → (report : Bytes) → Type 0
IsReported until limits events report = (all : List Event) × (outcome : IsOutcome limits all report) × AreAll until events all outcome.state

-- the same of its trace
abbrev pub AreTraced : Until → Limits → List Event → (lines : Bytes) → Type 0
AreTraced until limits events lines = (all : List Event) × (traced : IsTraced limits all lines) × AreAll until events all traced.state

-- the text is a schedule, and this is the report of its run
pub record IsReport (until : Until) (text report : Bytes) : Type 0 where
  pub limits : Limits
  pub events : List Event
  pub schedule : IsSchedule text limits events
  pub reported : IsReported until limits events report

-- the text is a schedule, and this is the trace of its run
pub record IsTraceOf (until : Until) (text trace : Bytes) : Type 0 where
  pub limits : Limits
  pub events : List Event
  pub schedule : IsSchedule text limits events
  pub traced : AreTraced until limits events trace

-- what is to be shown of a run of these events
abbrev pub AreLinesOf : Shown → Until → Limits → List Event → (lines : Bytes) → Type 0
AreLinesOf Report until limits events lines = IsReported until limits events lines
AreLinesOf Trace until limits events lines = AreTraced until limits events lines

-- the text is a schedule, and this is what is to be shown of its run
abbrev pub IsShown : Shown → Until → (text lines : Bytes) → Type 0
IsShown Report until text lines = IsReport until text lines
IsShown Trace until text lines = IsTraceOf until text lines

-- why a text has no report: its first bad line, or want of memory
abbrev pub IsFault : Bytes → ReplayFault → Type 0
IsFault text (BadLine number) = IsBadLine text number
IsFault text OutOfMemory = ⊤
IsFault text CannotRead = ⊥
IsFault text CannotWrite = ⊥

-- What was written of a text that was read: what is to be shown of its run; at a failed write a beginning of that; at any other fault
-- nothing.
abbrev pub IsRun : Shown → Until → Bytes → (written : Bytes) → Result ⊤ ReplayFault → Type 0
IsRun shown until text written (Ok done) = IsShown shown until text written
IsRun shown until text written (Err (BadLine number)) = IsBadLine text number × (written ≡ [])
IsRun shown until text written (Err OutOfMemory) = written ≡ []
IsRun shown until text written (Err CannotRead) = written ≡ []
IsRun shown until text written (Err CannotWrite) = (more : Bytes) × IsShown shown until text (written ++ more)

-- All that the reader had left was read, but where it failed or memory was wanted.
abbrev pub IsWhole : Result ⊤ ReplayFault → (at_end : Type 0) → Type 0
IsWhole (Err CannotRead) at_end = ⊤
IsWhole (Err OutOfMemory) at_end = ⊤
IsWhole _ at_end = at_end

-- what a reader has told after all was read of it: its end; where it failed, that; where memory was wanted, nothing more
abbrev pub ReadTold : {T : Type 0} → Result T ReplayFault → (before after : Told) → Type 0
ReadTold (Ok whole) before after = after ≡ told.End
ReadTold (Err CannotRead) before after = after ≡ told.Failure
ReadTold (Err OutOfMemory) before after = after ≡ before
ReadTold (Err _) before after = ⊥

-- What a reader has told after a run: its end, but where it failed. Memory may be wanted before the end.
abbrev pub ReaderTold : Result ⊤ ReplayFault → (before after : Told) → Type 0
ReaderTold (Err CannotRead) before after = after ≡ told.Failure
ReaderTold (Err OutOfMemory) before after = (after ≡ before) ⊎ (after ≡ told.End)
ReaderTold _ before after = after ≡ told.End

-- what a writer has told after a run: nothing more, but where it failed
abbrev pub writer_told : Result ⊤ ReplayFault → Told → Told
writer_told (Err CannotWrite) before = told.Failure
writer_told _ before = before

-- What a pass of the engine was told, as a thread of the background has it.
use Rattle.std.specs.Prelude.{Bool, true, false, Result, Ok, Err, List, [], ◌∷◌}
use Rattle.words.specs.declared.reply.Fault.{Fault}
use Rattle.words.specs.declared.reply.Fault.TheVariants as fault
use Rattle.gates.specs.declared.view.Work.{Work}
use Rattle.gates.specs.declared.view.Work.TheVariants as work
use Rattle.gates.specs.declared.view.Look.TheVariants.{HalfUsed, Used, FewerFree, FewerExpected}
use Rattle.gates.specs.declared.view.Note.{Note}
use Rattle.gates.specs.declared.view.Note.TheVariants as note
use Rattle.upkeep.specs.declared.stripes.Duty.{Duty}
use Rattle.upkeep.specs.declared.stripes.Duty.TheVariants as duty
use Rattle.upkeep.specs.declared.stripes.Event.{Event}
use Rattle.upkeep.specs.declared.stripes.Event.TheVariants as event
use Rattle.upkeep.specs.declared.stripes.Outcome.{Outcome}
use Rattle.upkeep.specs.declared.stripes.Outcome.TheVariants as outcome

-- whose work it is
abbrev pub duty_for : Work → Duty
duty_for work.Flush = duty.Flush
duty_for work.Evict = duty.Evict
duty_for (work.Clean refused) = duty.Clean

-- What was told of stripes: all but that others had them, and that the commit word is worn out.
abbrev pub events_of : List Note → List Event
events_of [] = []
events_of (note.Busy stripe ∷ notes) = events_of notes
events_of (note.Worn ∷ notes) = events_of notes
events_of (note.Full stripe refused ∷ notes) = event.Full stripe ∷ events_of notes
events_of (note.Idle stripe did ∷ notes) = event.Idle stripe (duty_for did) ∷ events_of notes
events_of (note.Done stripe did ∷ notes) = event.Done stripe (duty_for did) ∷ events_of notes
events_of (note.Seen stripe (HalfUsed answer) ∷ notes) = event.HalfUsed stripe answer ∷ events_of notes
events_of (note.Seen stripe (Used count) ∷ notes) = event.Used stripe count ∷ events_of notes
events_of (note.Seen stripe (FewerFree count answer) ∷ notes) = event.Short stripe answer ∷ events_of notes
events_of (note.Seen stripe (FewerExpected count answer) ∷ notes) = event.Opened stripe answer ∷ events_of notes

-- what a step came to that the engine answers so
abbrev pub outcome_by : Result Bool Fault → Outcome
outcome_by (Ok true) = outcome.Done
outcome_by (Ok false) = outcome.Idle
outcome_by (Err fault.StoreFull) = outcome.Full
outcome_by (Err fault.DeviceFault) = outcome.Fault
outcome_by (Err fault.OutOfMemory) = outcome.Fault
outcome_by (Err fault.CommitsWornOut) = outcome.Fault

-- What a run writes where nothing is reported.
use Rattle.std.proofs.Common.{List, [], Err, refl}
use Rattle.words.specs.declared.limits.Limits.{Limits}
use Rattle.words.specs.Store.{Bytes}
use Rattle.schedules.specs.declared.fault.ReplayFault.{ReplayFault}
use Rattle.schedules.specs.declared.fault.ReplayFault.TheVariants.{CannotRead, BadLine, OutOfMemory, CannotWrite}
use Rattle.schedules.specs.declared.until.Until.{Until}
use Rattle.schedules.specs.declared.run.Shown.{Shown}
use Rattle.schedules.specs.declared.run.Shown.TheVariants.{Report, Trace}
use Rattle.schedules.specs.Schedules.{IsSchedule}
use Rattle.world_model.specs.declared.event.Event.{Event}
use Rattle.schedules.specs.Runs.{AreLinesOf, IsFault, IsRun, IsShown}

-- where a text has no report nothing was written
pub not_run : (shown : Shown) (until : Until) (text : Bytes) (fault : ReplayFault) → IsFault text fault → IsRun shown until text [] (Err fault)
not_run shown until text (BadLine number) is = (is, refl)
not_run shown until text OutOfMemory is = refl
not_run shown until text CannotRead is = refl
not_run shown until text CannotWrite is = absurd is

-- what is to be shown of the run of a schedule
pub shown_of : (shown : Shown) (until : Until) (text lines : Bytes) (limits : Limits) (events : List Event) → IsSchedule text limits events
    → AreLinesOf shown until limits events lines → IsShown shown until text lines
shown_of Report until text lines limits events schedule are = record { limits = limits; events = events; schedule = schedule; reported = are }
shown_of Trace until text lines limits events schedule are = record { limits = limits; events = events; schedule = schedule; traced = are }

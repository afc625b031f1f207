-- How the program `replay` ends.
use Rattle.std.specs.Prelude.{ℕ, ⊤, Result, Ok, Err}
use Rattle.schedules.specs.declared.fault.ReplayFault.{ReplayFault}
use Rattle.schedules.specs.Statuses.{status_of}

-- the exit status after a run: 0, or that of the fault that was met
abbrev pub status_after : Result ⊤ ReplayFault → ℕ
status_after (Ok done) = 0
status_after (Err fault) = status_of fault

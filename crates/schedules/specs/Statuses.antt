-- What a program says of a fault.
use Rattle.std.specs.Prelude.{ℕ, Bool, true, false}
use Rattle.schedules.specs.declared.fault.ReplayFault.{ReplayFault}
use Rattle.schedules.specs.declared.fault.ReplayFault.TheVariants.{BadLine, CannotWrite}

-- the exit status: 2 where a line is bad, else 1
abbrev pub status_of : ReplayFault → ℕ
status_of (BadLine number) = 2
status_of _ = 1

-- whether a text is written on standard error: not where the report could not be written
abbrev pub is_told : ReplayFault → Bool
is_told CannotWrite = false
is_told _ = true

-- When a reader asks for input again and again before it sleeps.
use Rattle.std.specs.Prelude.{ℕ, Result, Ok, Err}
use Rattle.std.specs.NonZero.{non_zero_usize_get}
use Rattle.std.specs.declared.num.NonZeroUsize.{NonZeroUsize}
use Rattle.sockets.specs.declared.serving.Serving.{Serving}

-- how many processors there are, by what the system told: 1 where it told of none
abbrev pub processors_by : {E : Type 0} → Result NonZeroUsize E → ℕ
processors_by (Ok count) = non_zero_usize_get count
processors_by (Err error) = 1

-- on how many processors connections are served
abbrev pub processors_in : Serving → ℕ
processors_in serving = serving.processors

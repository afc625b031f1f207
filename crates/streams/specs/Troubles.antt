-- What kept a stream from a call.
use Rattle.std.specs.Prelude.{ℕ, Result, Ok, Err}
use Rattle.streams.specs.declared.asked.Trouble.{Trouble}
use Rattle.streams.specs.declared.asked.Trouble.TheVariants.{Interrupted, Failure}

-- how often the stream failed then: once, or not
abbrev pub failed_once : Trouble → ℕ
failed_once Interrupted = 0
failed_once Failure = 1

-- how often it failed in a call that came to this
abbrev pub failures_in : {T : Type 0} → Result T Trouble → ℕ
failures_in (Ok done) = 0
failures_in (Err trouble) = failed_once trouble

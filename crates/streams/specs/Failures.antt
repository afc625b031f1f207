-- How many calls of a stream failed.
use Rattle.std.specs.Prelude.{ℕ, ◌+◌}
use Rattle.streams.specs.declared.failures.Failures.{Failures, Nothing, After'}

-- a failure counts one more than those before it
abbrev pub count_of : Failures → ℕ
count_of Nothing = 0
count_of (After' snapshot earlier) = count_of earlier + 1

-- How often something was done.
use Rattle.std.specs.Prelude.{ℕ, ◌+◌}
use Rattle.sockets.specs.declared.counts.Once.{Once, Nothing, After'}

-- once more than what was before
abbrev pub count_in : Once → ℕ
count_in Nothing = 0
count_in (After' snapshot earlier) = count_in earlier + 1

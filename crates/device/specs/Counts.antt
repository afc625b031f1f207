-- How often an opening was called.
use Rattle.std.specs.Prelude.{ℕ, ◌+◌}
use Rattle.device.specs.declared.counts.Call.{Call, Nothing, After'}

-- a call counts one more than those before it
abbrev pub count_of : Call → ℕ
count_of Nothing = 0
count_of (After' snapshot earlier) = count_of earlier + 1

-- how many calls of each kind an opening in memory has had, and how often the allocator had no memory for a page
pub record Calls : Type 0 where
  pub failures : ℕ
  pub writes : ℕ
  pub reads : ℕ
  pub releases : ℕ
  pub refusals : ℕ

abbrev pub no_calls : Calls
no_calls = record { failures = 0; writes = 0; reads = 0; releases = 0; refusals = 0 }

-- one write more
abbrev pub after_write : Calls → Calls
after_write calls = record calls { writes = calls.writes + 1 }

-- one write more, which failed, since the allocator had no memory for its page
abbrev pub after_refusal : Calls → Calls
after_refusal calls = record calls { failures = calls.failures + 1; writes = calls.writes + 1; refusals = calls.refusals + 1 }

-- one read more
abbrev pub after_read : Calls → Calls
after_read calls = record calls { reads = calls.reads + 1 }

-- one release more
abbrev pub after_release : Calls → Calls
after_release calls = record calls { releases = calls.releases + 1 }

use Rattle.std.proofs.Common.{◌≡◌, replicate}
use Rattle.device.specs.Counts.{no_calls}
use Rattle.device.proofs.memory.MemoryDevice.openings.Given as goal

-- so many openings, none of which was called
abbrev pub invariant-loop : goal.invariant-loop
invariant-loop l = l.openings.items ≡ replicate l.counter no_calls

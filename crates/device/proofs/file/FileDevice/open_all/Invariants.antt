use Rattle.std.proofs.Common.{◌≡◌, ◌≤◌, All, vec_len, vec_capacity}
use Rattle.device.specs.Files.{failures_of}
use Rattle.device.proofs.file.FileDevice.open_all.Given as goal

-- so many openings, none of which has failed, and room for all
abbrev pub invariant-loop : goal.invariant-loop
invariant-loop g l = (vec_len l.openings ≡ l.counter) × (l.n ≤ vec_capacity l.openings) × All (λ d. failures_of d ≡ 0) l.openings.items

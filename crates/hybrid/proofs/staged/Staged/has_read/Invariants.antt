use Rattle.std.proofs.Common.{◌≡◌, ℕ, ◌<◌}
use Rattle.std.specs.Prelude.{slice_index_or}
use Rattle.hybrid.specs.Staging.{StagedPage}
use Rattle.hybrid.proofs.staged.Staged.has_read.Given as goal

abbrev pub invariant-loop-read : goal.invariant-loop-read
invariant-loop-read g l = (k : ℕ) (d : StagedPage) → k < l.read-index → (slice_index_or l.self k d).kept.identity ≡ g.R.Shows.identity l.receipt → ⊥

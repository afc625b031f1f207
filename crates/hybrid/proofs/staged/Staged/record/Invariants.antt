use Rattle.std.proofs.Common.{◌≡◌, ℕ, ◌<◌, None}
use Rattle.std.specs.Prelude.{slice_index_or}
use Rattle.std.specs.List.{Contains}
use Rattle.records.specs.Records.{IsLaidOut, Stored, records_of, size_of}
use Rattle.hybrid.specs.Staging.{AreRight, HasBytes, StagedPage}
use Rattle.hybrid.proofs.staged.Staged.record.Given as goal

abbrev pub invariant-loop-read : goal.invariant-loop-read
invariant-loop-read g l =
    ((k : ℕ) (d : StagedPage) → k < l.read-index → ((slice_index_or l.self k d).kept.identity ≡ g.R.Shows.identity l.receipt) × ((slice_index_or l.self k d).piece ≡ None) → ⊥)
    × (g.R.Shows.is_honest → AreRight l.self → IsLaidOut (g.R.Shows.shown l.receipt) → (r : Stored) → Contains (records_of (g.R.Shows.shown l.receipt)) (l.offset, r)
    → (k : ℕ) (d : StagedPage) → k < l.read-index → ((slice_index_or l.self k d).kept.identity ≡ g.R.Shows.identity l.receipt) × HasBytes (slice_index_or l.self k d) l.offset (size_of r) → ⊥)

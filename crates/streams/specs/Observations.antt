-- What an interrupted call of a stream leaves.
use Rattle.std.specs.Prelude.{◌≡◌, ◌<◌}
use Rattle.streams.specs.declared.observed.Observed.{Observed}

-- it has told what it had told, may give bytes as often, and may be interrupted less often
abbrev pub AsBefore : {S : Type 0} → Observed S → Observed S → Type 0
AsBefore old new = (new.told ≡ old.told) × (new.reads ≡ old.reads) × (new.interruptions < old.interruptions)

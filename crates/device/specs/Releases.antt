-- What may be released.
use Rattle.std.specs.Prelude.{ℕ}
use Rattle.device.specs.declared.releasable.Releasable.{Releasable}
use Rattle.epoch.specs.Words.{TableId}
use Rattle.epoch.specs.Seats.{retired_epoch, retired_of, retired_value}

module _ {R : Type 0} where
  -- the receipt that may be released
  abbrev pub released_value : Releasable R → R
  released_value releasable = retired_value releasable.retired

  -- the epoch that it was retired at, and that is drained
  abbrev pub released_epoch : Releasable R → ℕ
  released_epoch releasable = retired_epoch releasable.retired

  -- which epochs retired it, and drained it
  abbrev pub released_of : Releasable R → TableId
  released_of releasable = retired_of releasable.retired

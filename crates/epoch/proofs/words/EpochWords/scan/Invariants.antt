use Rattle.std.proofs.Common.{◌≡◌}
use Rattle.epoch.specs.Seats.{IsScanning, OnlyScanned}
use Rattle.epoch.proofs.words.EpochWords.scan.Given as goal

-- so many words were read, and none of them blocks the epoch
abbrev pub invariant-loop-number : goal.invariant-loop-number
invariant-loop-number l =
    (l.seat.table_id ≡ l.initial.seat.table_id)
    × OnlyScanned l.initial.seat.me.0 l.seat.me.0
    × IsScanning l.e l.number l.initial.seat.me.0 l.seat.me.0

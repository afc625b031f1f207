use Rattle.std.proofs.Common.{◌≡◌, ◌-◌, ◌≤◌, [], All, vec_len, vec_capacity}
use Rattle.epoch.specs.Seats.{id_of, seats_of, IsOutside, KnowsNothing}
use Rattle.epoch.specs.Plays.{standing}
use Rattle.epoch.proofs.epochs.Epochs.deal.Given as goal

-- so many seats were dealt, each outside and new; the others wait
abbrev pub invariant-loop-number : goal.invariant-loop-number
invariant-loop-number l =
    (l.others.table_id ≡ id_of l.self)
    × (l.others.me ≡ (standing l.number (seats_of l.self - l.number), []))
    × (vec_len l.dealt ≡ l.number)
    × (seats_of l.self ≤ vec_capacity l.dealt)
    × All (IsOutside l.self) l.dealt.items
    × All KnowsNothing l.dealt.items

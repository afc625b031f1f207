use Rattle.epoch.specs.Seats.{known, IsSeatOf, KnowsTheSame}
use Rattle.epoch.proofs.epochs.Epochs.enter.Given as goal

abbrev pub invariant-loop : goal.invariant-loop
invariant-loop g l = IsSeatOf l.self l.seat × KnowsTheSame (known l.initial.seat) (known l.seat)

use Rattle.std.proofs.Common.{refl}
use Rattle.epoch.specs.Seats.{known, seats_of}
use Rattle.epoch.proofs.Moments.{stays}
use Rattle.epoch.proofs.epochs.Epochs.enter.Goals as goal

pub returns-then-try_enter-clause-stays : goal.returns-then-try_enter-clause-stays
returns-then-try_enter-clause-stays g c = λ s ruled at.
    let seat = c.try_enter.new.seat in
    let is = c.try_enter.ensures.seat in
    stays (seats_of c.args.self.now) s ruled seat.seat.id (known seat) at seat.number (c.if-try_enter.ensures.valid refl) is.first is.single

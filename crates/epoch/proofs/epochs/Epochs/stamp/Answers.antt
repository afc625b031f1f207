use Rattle.std.proofs.Common.{arith, ap, sym, ◌∙◌}
use Rattle.epoch.proofs.Steps.{tells_any}
use Rattle.epoch.proofs.Moments.{over}
use Rattle.epoch.specs.Seats.{blocks_in, known, seats_of}
use Rattle.epoch.proofs.epochs.Epochs.stamp.Goals as goal

pub split_seat-token-requires : goal.split_seat-token-requires
split_seat-token-requires g c =
    let shared = c.shared.result.now in (
      c.advance.ensures.seat.table ∙ sym c.shared.ensures.id,
      omega (arith, c.shared.ensures.wide),
      tells_any shared.key c.advance.new.seat.seat.id c.advance.new.seat.seat.me.0,
    )

pub returns-in-Some-clause-fresh : goal.returns-in-Some-clause-fresh
returns-in-Some-clause-fresh g c = ap (λ m. blocks_in c.in-Some.epoch m.0.notes) c.split_seat-token.ensures.4

pub returns-in-Some-clause-over : goal.returns-in-Some-clause-over
returns-in-Some-clause-over g c = λ s ruled at.
    let token = c.split_seat-token in
    let past = c.in-Some.ensures.some in
    over (seats_of c.args.self.now) s ruled token.result.id token.result.me.0 at c.in-Some.epoch (known c.args.seat.now).advanced
    (ap (λ m. m.0.advanced) token.ensures.4 ∙ past.advanced)

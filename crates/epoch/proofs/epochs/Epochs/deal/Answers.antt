use Rattle.std.proofs.Common.{◌≡◌, ◌∙◌, ◌+◌, ◌-◌, ◌<◌, ℕ, [], All, false, sym, ap, subst, arith}
use Rattle.atomic_table.specs.Table.{Me}
use Rattle.epoch.specs.declared.view.View.{View}
use Rattle.epoch.specs.Plays.{standing}
use Rattle.epoch.specs.Words.{id_in}
use Rattle.epoch.specs.Seats.{IsOutside, KnowsNothing, seats_of}
use Rattle.epoch.specs.declared.epochs.EpochSeat.{EpochSeat}
use Rattle.epoch.specs.declared.words.EpochWords.{EpochWords}
use Rattle.std.proofs.lemmas.List.Elements.{All-push}
use Rattle.epoch.proofs.Steps.{deals}
use Rattle.epoch.proofs.epochs.Epochs.deal.Goals as goal

pub split_seat-others-requires : goal.split_seat-others-requires
split_seat-others-requires c =
    let i = c.loop-number.invariant in
    let shared = c.shared.result.now in
    let seats = seats_of c.args.self.now in
    let same : c.deref.result.now.seats ≡ seats = ap (λ (w : EpochWords). w.seats) c.deref.ensures in (
      i.0 ∙ sym c.shared.ensures.id,
      omega (arith, c.shared.ensures.wide),
      deals shared.key c.loop-number.others.id c.loop-number.others.me.0 c.loop-number.number (seats - c.loop-number.number)
          (omega (arith, c.loop-number-test.true, same)) (ap (λ m. m.0) i.1),
    )

pub loop-number-preserved : goal.loop-number-preserved
loop-number-preserved c =
    let i = c.loop-number.invariant in
    let number = c.loop-number.number in
    let seats = seats_of c.args.self.now in
    let same : c.deref.result.now.seats ≡ seats = ap (λ (w : EpochWords). w.seats) c.deref.ensures in
    let more : number < seats = omega (arith, c.loop-number-test.true, same) in
    let s = c.split_seat-others.ensures in
    let me : c.split_seat-others.new.seat.me ≡ (standing number 1, []) = s.2 ∙ ap (λ (m : Me ℕ View). (standing m.0.first 1, m.1)) i.1 in
    let left : (seats - number) - 1 ≡ seats - (number + 1) = omega arith in
    let others : c.split_seat-others.result.me ≡ (standing (number + 1) ((seats - number) - 1), []) =
    s.4 ∙ ap (λ (m : Me ℕ View). (standing (m.0.first + 1) (m.0.count - 1), [])) i.1 in
    let seat : EpochSeat = record { number = number; last = 1; armed = false; seat = c.split_seat-others.new.seat; handles = c.in_ok-handles.handles } in (
      s.3 ∙ i.0,
      others ∙ ap (λ (k : ℕ). (standing (number + 1) k, [])) left,
      omega (arith, c.push_reserved.ensures.len, i.2),
      omega (arith, c.push_reserved.ensures.capacity, i.3),
      subst (All (IsOutside c.args.self.now)) (sym c.push_reserved.ensures.items)
          (All-push (IsOutside c.args.self.now) c.loop-number.dealt.items seat i.4
          record {
            is = record {
              table = s.0 ∙ i.0;
              handles = ap id_in c.in_ok-handles.ensures;
              below = more;
              first = ap (λ (m : Me ℕ View). m.0.first) me;
              single = ap (λ (m : Me ℕ View). m.0.count) me;
              armed = sym (ap (λ (m : Me ℕ View). m.0.armed) me);
              last = omega arith;
            };
            cleared = ap (λ (m : Me ℕ View). m.0.own) me;
            none = ap (λ (m : Me ℕ View). m.0.valid) me;
          }),
      subst (All KnowsNothing) (sym c.push_reserved.ensures.items)
          (All-push KnowsNothing c.loop-number.dealt.items seat i.5
          record { advanced = ap (λ (m : Me ℕ View). m.0.advanced) me; notes = ap (λ (m : Me ℕ View). m.0.notes) me }),
    )

use Rattle.std.proofs.Common.{◌≡◌, ◌∙◌, ◌+◌, ◌++◌, ◌∷◌, [], ℕ, length, vec_len, append_assoc, append-nil, sym, ap, subst, arith}
use Rattle.gates.specs.Passes.{AreNew, IsResting, known}
use Rattle.gates.specs.Plays.{newcomer}
use Rattle.engine.specs.Passes.{AreDealt}
use Rattle.std.specs.List.{All}
use Rattle.epoch.specs.Seats.{IsOutside}
use Rattle.engine.proofs.New.{all_before, all_last, dealt_before, dealt_none, new_last}
use Rattle.engine.proofs.deal.deal.Goals as goal

pub loop-gates-init : goal.loop-gates-init
loop-gates-init g c = record {
  same = c.requires.count;
  seats = c.requires.seats;
  outside = c.requires.outside;
  new = c.requires.new;
  dealt = ([], sym (append-nil c.args.openings.items), dealt_none g.R.Shows.is_steady c.args.gates.now c.args.epochs.now c.args.passes.items c.in_ok-dealt.dealt.items _ c.in_ok-dealt.ensures.items);
}

pub loop-gates-preserved : goal.loop-gates-preserved
loop-gates-preserved g c =
    let s : Type 0 = g.R.Shows.is_steady in
    let gates = c.args.gates.now in
    let epochs = c.args.epochs.now in
    let inv = c.loop-gates.invariant in
    let left : ℕ = vec_len c.pop.new.self in
    let last = new_last s gates 0 c.pop.new.self.items c.in-Some.gates (subst (AreNew s gates 0) c.in-Some.ensures.items inv.new) in
    let number : length c.pop.new.self.items + 0 ≡ left = omega (arith, c.pop.new.self.ok.0) in
    record {
      same = omega (arith, inv.same, c.in-Some.ensures.cases, c.in-Some-pop.ensures.cases);
      seats = omega (arith, inv.seats, c.in-Some-pop.ensures.cases, c.in-Some-pop-2.ensures.cases);
      outside = all_before (IsOutside epochs) c.pop-in-Some-2.new.self.items c.in-Some-pop-2.seat (subst (All (IsOutside epochs)) c.in-Some-pop-2.ensures.items inv.outside);
      new = last.0;
      dealt = (
        c.in-Some-pop.device ∷ inv.dealt.0,
        inv.dealt.1 ∙ ap (λ l. l ++ inv.dealt.0) c.in-Some-pop.ensures.items ∙ append_assoc c.pop-in-Some.new.self.items (c.in-Some-pop.device ∷ []) inv.dealt.0,
        subst (λ l. AreDealt s gates epochs left l (c.in-Some-pop.device ∷ inv.dealt.0)) (sym c.in_ok-insert.ensures.items)
            (dealt_before s gates epochs left (vec_len c.loop-gates.passes) c.in_ok-pass.pass c.in-Some-pop.device c.loop-gates.dealt.items inv.dealt.0
            (omega (arith, c.in-Some.ensures.cases)) (record { rests = record { rests = subst (IsResting s gates) (sym c.in_ok-pass.ensures.gates) last.1; has_hands = (c.in_ok-pass.ensures.hands.0, c.in_ok-pass.ensures.hands.1, record { outside = subst (IsOutside epochs) (sym c.in_ok-pass.ensures.hands.2) (all_last (IsOutside epochs) c.pop-in-Some-2.new.self.items c.in-Some-pop-2.seat (subst (All (IsOutside epochs)) c.in-Some-pop-2.ensures.items inv.outside)); none = c.in_ok-pass.ensures.hands.3 }) }; nothing = ap known c.in_ok-pass.ensures.gates ∙ last.2 ∙ ap newcomer number; device = c.in_ok-pass.ensures.device }) inv.dealt.2),
      );
    }

use Rattle.std.proofs.Common.{◌≡◌, subst, sym, ap, ◌∙◌, ◌+◌, arith, eq-eqb, ne_eqb, ℕ}
use Rattle.std.proofs.lemmas.Bool.{MatchBool-at_true, MatchBool-at_false, true≢false, false≢true}
use Rattle.atomic_table.specs.Table.{turned}
use Rattle.gates.specs.Plays.{own, Took, Missed}
use Rattle.gates.specs.Passes.{AllFit, AreAsTaken, IsSeatOf, Learned}
use Rattle.gates.proofs.Steps.{tries_at}
use Rattle.gates.proofs.Holding.{took_seat, took_parts, took_knows, took_notes, took_fit, took_lent, missed_lent, missed_seat, missed_parts, missed_knows, missed_fit}
use Rattle.gates.proofs.gates.Gates.try_stripe.Goals as goal

pub compare_exchange-found-requires : goal.compare_exchange-found-requires
compare_exchange-found-requires g c =
    let pass = c.args.pass.now in
    let h = c.requires.holding in
    let few = h.small in
    let sized = c.args.self.now.sized in (
      h.table,
      omega (arith, c.word_index-word.ensures, c.requires.below, sized),
      tries_at c.laws.ensures g.T.Part.meaning c.args.self.now.table.shared.key c.args.self.now.table.shared.table_id.slots pass.seat.id pass.seat.me
          c.args.stripe c.word_index-word.result (pass.number + 1) c.word_index-word.ensures (ap (λ (k : ℕ). k + 1) (sym h.seat.number_is)) h.seat.single c.requires.below
          (h.seat.same c.args.stripe ∙ c.requires.other) (omega arith),
    )

pub returns-then-found-ne0 : goal.returns-then-found-ne0
returns-then-found-ne0 g c =
    let pass = c.args.pass.now in
    let h = c.requires.holding in
    let n = c.args.self.now.table.shared.table_id.slots in
    let found = c.compare_exchange-found.result in
    let m = pass.seat.me in
    let w = c.compare_exchange-found.new.seat.me in
    let told = c.compare_exchange-found.ensures.2 c.args.stripe c.word_index-word.ensures in
    let missed : Missed c.args.stripe found m w = MatchBool-at_false (Took g.T.Part.meaning n c.args.stripe m w) (Missed c.args.stripe found m w) (ne_eqb found 0 c.if-found-ne0.true) told in
    let knows = missed_knows n pass.number c.args.stripe found m w h.seat missed in
    record {
      holding = record {
        table = c.compare_exchange-found.ensures.0 ∙ h.table;
        small = h.small;
        armed = h.armed ∙ sym (ap (λ y. y.0.armed) missed.seat);
        seat = missed_seat n pass.number c.args.stripe found m w h.seat missed;
      };
      lent = missed_lent n pass.number c.args.stripe found m w h.seat missed c.requires.lent;
      fit = missed_fit n pass.number c.args.stripe found m w h.seat missed g.T.Part.meaning c.requires.fit;
      taken = λ e. absurd (false≢true e);
      missed = λ _. (knows, missed_parts n pass.number c.args.stripe found m w h.seat missed, ap (λ y. y.0.held) missed.seat);
    }

pub returns : goal.returns
returns g c =
    let pass = c.args.pass.now in
    let h = c.requires.holding in
    let n = c.args.self.now.table.shared.table_id.slots in
    let i = c.args.stripe in
    let found = c.compare_exchange-found.result in
    let m = pass.seat.me in
    let w = c.compare_exchange-found.new.seat.me in
    let x = c.turn.new.self.me in
    let contents = g.T.Part.meaning in
    let told = c.compare_exchange-found.ensures.2 i c.word_index-word.ensures in
    let took : Took contents n i m w = MatchBool-at_true (Took contents n i m w) (Missed i found m w) (eq-eqb found 0 c.if-found-ne0.false) told in
    let none_held = c.requires.other in
    let turn : x ≡ (w.0, turned w.1) = c.turn.ensures.2 in
    record {
      holding = record {
        table = c.turn.ensures.0 ∙ c.compare_exchange-found.ensures.0 ∙ h.table;
        small = h.small;
        armed = h.armed ∙ sym (ap (λ y. y.0.armed) turn ∙ ap (λ y. y.0.armed) took.seat);
        seat = subst (IsSeatOf contents.trusted n pass.number) (sym turn) (took_seat c.laws.ensures contents n pass.number i m w h.seat c.requires.below none_held took);
      };
      lent = subst (λ y. AreAsTaken y.0.taken y.1) (sym turn) (took_lent c.laws.ensures contents n pass.number i m w h.seat c.requires.below none_held took c.requires.lent);
      fit = subst (λ y. AllFit contents n (own y.0) y.0.taken y.1) (sym turn) (took_fit c.laws.ensures contents n pass.number i m w h.seat c.requires.below none_held took c.requires.fit);
      taken = λ _. (
        subst (λ y. Learned (own m.0) (own y.0)) (sym turn) (took_knows c.laws.ensures contents n pass.number i m w h.seat c.requires.below none_held took),
        ap (λ y. (own y.0).notes) turn ∙ took_notes c.laws.ensures contents n pass.number i m w h.seat c.requires.below none_held took,
        (took.part, ap (λ y. y.1) turn ∙ took_parts c.laws.ensures contents n pass.number i m w h.seat c.requires.below none_held took),
        ap (λ y. y.0.held) turn ∙ ap (λ y. y.0.held) took.seat,
      );
      missed = λ e. absurd (true≢false e);
    }

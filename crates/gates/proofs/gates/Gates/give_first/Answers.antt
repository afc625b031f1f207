use Rattle.std.proofs.Common.{◌∙◌, sym, refl, ap, arith}
use Rattle.gates.proofs.Steps.{gives_first}
use Rattle.gates.proofs.Holding.{gave_seat, gave_parts, gave_knows, gave_fit, first_held, first_below, first_fits, keys_held}
use Rattle.atomic_table.specs.Table.{rest}
use Rattle.gates.specs.Plays.{giving, knowing, kept, own}
use Rattle.words.specs.History.{keys_of_pairs}
use Rattle.gates.proofs.gates.Gates.give_first.Goals as goal

pub word_index-word-requires : goal.word_index-word-requires
word_index-word-requires g c =
    let n = c.args.self.now.table.shared.table_id.slots in
    let small = c.args.self.now.small in
    let m = c.args.pass.now.seat.me in
    let first = c.requires.first in
    let below = first_below n c.args.pass.now.number c.args.stripe first.0 m (giving (knowing m.0 (kept g.E.Ending.ends g.E.Ending.told (own m.0))) c.args.stripe, rest m.1) c.requires.holding.seat first.1 g.E.Ending.ends g.E.Ending.told refl in
    omega arith

pub store-requires : goal.store-requires
store-requires g c =
    let n = c.args.self.now.table.shared.table_id.slots in
    let sized = c.args.self.now.sized in
    let number = c.args.pass.now.number in
    let m = c.args.pass.now.seat.me in
    let i = c.args.stripe in
    let h = c.requires.holding in
    let first = c.requires.first in
    let below = first_below n number i first.0 m (giving (knowing m.0 (kept g.E.Ending.ends g.E.Ending.told (own m.0))) i, rest m.1) h.seat first.1 g.E.Ending.ends g.E.Ending.told refl in (
      h.table,
      omega (arith, c.word_index-word.ensures, sized),
      gives_first c.laws.ensures g.T.Part.meaning c.args.self.now.table.shared.key n c.args.pass.now.seat.id g.E.Ending.ends g.E.Ending.told m i c.word_index-word.result first.0 c.word_index-word.ensures first.1 h.seat.single
          (first_held n number i first.0 m (giving (knowing m.0 (kept g.E.Ending.ends g.E.Ending.told (own m.0))) i, rest m.1) h.seat first.1 g.E.Ending.ends g.E.Ending.told refl)
          (λ e. keys_held n m.1 m.0.held h.seat.same (keys_of_pairs (own m.0).watched) (c.requires.ends e))
          (first_fits n number i first.0 m (giving (knowing m.0 (kept g.E.Ending.ends g.E.Ending.told (own m.0))) i, rest m.1) h.seat first.1 g.E.Ending.ends g.E.Ending.told refl g.T.Part.meaning c.requires.fit),
    )

pub returns-clause-holding : goal.returns-clause-holding
returns-clause-holding g c =
    let h = c.requires.holding in
    let first = c.requires.first in
    record {
      table = c.store.ensures.0 ∙ h.table;
      small = h.small;
      armed = h.armed ∙ sym (ap (λ m. m.0.armed) (c.store.ensures.2 c.args.stripe c.word_index-word.ensures));
      seat = gave_seat c.args.self.now.table.shared.table_id.slots c.args.pass.now.number c.args.stripe first.0 c.args.pass.now.seat.me c.store.new.seat.me h.seat first.1 g.E.Ending.ends g.E.Ending.told
          (c.store.ensures.2 c.args.stripe c.word_index-word.ensures);
    }

pub returns-clause-known : goal.returns-clause-known
returns-clause-known g c =
    let first = c.requires.first in
    gave_knows c.args.self.now.table.shared.table_id.slots c.args.pass.now.number c.args.stripe first.0 c.args.pass.now.seat.me c.store.new.seat.me c.requires.holding.seat first.1 g.E.Ending.ends g.E.Ending.told
    (c.store.ensures.2 c.args.stripe c.word_index-word.ensures)

pub returns-clause-others : goal.returns-clause-others
returns-clause-others g c =
    let first = c.requires.first in
    gave_parts c.args.self.now.table.shared.table_id.slots c.args.pass.now.number c.args.stripe first.0 c.args.pass.now.seat.me c.store.new.seat.me c.requires.holding.seat first.1 g.E.Ending.ends g.E.Ending.told
    (c.store.ensures.2 c.args.stripe c.word_index-word.ensures)

pub returns-clause-fit : goal.returns-clause-fit
returns-clause-fit g c =
    let first = c.requires.first in
    gave_fit c.args.self.now.table.shared.table_id.slots c.args.pass.now.number c.args.stripe first.0 c.args.pass.now.seat.me c.store.new.seat.me c.requires.holding.seat first.1 g.E.Ending.ends g.E.Ending.told
    (c.store.ensures.2 c.args.stripe c.word_index-word.ensures) g.T.Part.meaning c.requires.fit

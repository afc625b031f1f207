use Rattle.std.proofs.Common.{◌∙◌, sym, ap, refl, arith, ◌∷◌}
use mathlib.Core.Option.{none}
use Rattle.atomic_table.specs.Table.{step}
use Rattle.gates.specs.Plays.{own, first_of, others_of, sees, Meets}
use Rattle.gates.proofs.Steps.{keep_splits, leave_splits, joins, meets}
use Rattle.gates.proofs.Holding.{nothing_held, go_on, loaded_passes, loaded_parts, loaded_held, seen_seat, seen_log, seen_learned, seen_notes, met_first, met_second}
use Rattle.gates.proofs.gates.Gates.meet.Goals as goal

pub split_seat-theirs-requires : goal.split_seat-theirs-requires
split_seat-theirs-requires g c =
    let n = c.args.self.now.table.shared.table_id.slots in
    let h = c.requires.second.holding in
    let sized = c.args.self.now.sized in
    let second = c.args.second.now in
    (h.table, omega arith, leave_splits g.T.Part.meaning c.args.self.now.table.shared.key second.seat.id second.seat.me.0 (nothing_held n second.number second.seat.me h.seat c.requires.second.nothing))

pub join_seat-requires : goal.join_seat-requires
join_seat-requires g c =
    let n = c.args.self.now.table.shared.table_id.slots in
    let h = c.requires.first.holding in
    let sized = c.args.self.now.sized in
    let first = c.args.first.now in
    let left = c.split_seat-theirs.ensures.4 in (
      h.table,
      c.split_seat-theirs.ensures.3 ∙ c.requires.second.holding.table,
      ap (λ m. m.1) left,
      omega arith,
      joins g.T.Part.meaning c.args.self.now.table.shared.key first.seat.id c.split_seat-theirs.result.id first.seat.me.0 c.split_seat-theirs.result.me.0
          (nothing_held n first.number first.seat.me h.seat c.requires.first.nothing) (ap (λ m. m.0.held) left),
    )

pub load-requires : goal.load-requires
load-requires g c =
    let n = c.args.self.now.table.shared.table_id.slots in
    let sized = c.args.self.now.sized in
    let small = c.args.self.now.small in (
      c.join_seat.ensures.0 ∙ c.requires.first.holding.table,
      omega (arith, c.word_index.ensures, sized, small),
      meets g.T.Part.meaning c.args.self.now.table.shared.key c.laws.ensures n c.join_seat.new.seat.id c.word_index.result c.join_seat.new.seat.me (ap (λ m. m.0.held) c.join_seat.ensures.2),
    )

pub split_seat-requires : goal.split_seat-requires
split_seat-requires g c =
    let n = c.args.self.now.table.shared.table_id.slots in
    let sized = c.args.self.now.sized in
    let first = c.args.first.now in
    let second = c.args.second.now in
    let met = c.load.ensures.2 in
    let passes = loaded_passes n c.load.result (step n c.word_index.result 0 0 none) first.seat.me second.seat.me c.split_seat-theirs.result.me c.join_seat.new.seat.me c.load.new.seat.me
    c.requires.first.holding.seat.single c.requires.second.holding.seat.single refl c.split_seat-theirs.ensures.4 c.join_seat.ensures.2 met in
    let held = loaded_held n c.load.result (step n c.word_index.result 0 0 none) first.seat.me second.seat.me c.split_seat-theirs.result.me c.join_seat.new.seat.me c.load.new.seat.me
    c.requires.first.holding.seat.single c.requires.second.holding.seat.single refl c.split_seat-theirs.ensures.4 c.join_seat.ensures.2 met in (
      c.load.ensures.0 ∙ c.join_seat.ensures.0 ∙ c.requires.first.holding.table,
      omega arith,
      keep_splits g.T.Part.meaning c.args.self.now.table.shared.key c.load.new.seat.id c.load.new.seat.me.0 held
          (passes ∙ ap (λ l. first_of l ∷ others_of l) (sym passes)),
    )

pub returns : goal.returns
returns g c =
    let n = c.args.self.now.table.shared.table_id.slots in
    let first = c.args.first.now in
    let second = c.args.second.now in
    let h1 = c.requires.first in
    let h2 = c.requires.second in
    let st = step n c.word_index.result 0 0 none in
    let met : Meets g.T.Part.meaning.trusted st c.join_seat.new.seat.me c.load.result c.load.new.seat.me = c.load.ensures.2 in
    let log = met.log in
    let left = c.split_seat-theirs.ensures.4 in
    let both = c.join_seat.ensures.2 in
    let passes = loaded_passes n c.load.result st first.seat.me second.seat.me c.split_seat-theirs.result.me c.join_seat.new.seat.me c.load.new.seat.me
    h1.holding.seat.single h2.holding.seat.single refl left both met in
    let parts = loaded_parts n c.load.result st first.seat.me second.seat.me c.split_seat-theirs.result.me c.join_seat.new.seat.me c.load.new.seat.me
    h1.holding.seat.single h2.holding.seat.single refl left both met in
    let goes = go_on n c.load.result st first.seat.me second.seat.me c.split_seat-theirs.result.me c.join_seat.new.seat.me c.load.new.seat.me
    h1.holding.seat.single h2.holding.seat.single refl left both met in
    let w1 = met_first c.load.new.seat.me c.split_seat.new.seat.me (sees (own first.seat.me.0) log) (sees (own second.seat.me.0) log) passes (parts ∙ h1.nothing) c.split_seat.ensures.2 in
    let w2 = met_second c.load.new.seat.me c.split_seat.result.me (sees (own first.seat.me.0) log) (sees (own second.seat.me.0) log) passes c.split_seat.ensures.4 in
    let table = c.load.ensures.0 ∙ c.join_seat.ensures.0 ∙ h1.holding.table in
    record {
      first = record {
        holding = record { table = c.split_seat.ensures.0 ∙ table; small = h1.holding.small; armed = sym (ap (λ m. m.0.armed) w1); seat = seen_seat c.laws.ensures n first.number log first.seat.me c.split_seat.new.seat.me h1.holding.seat goes.0 w1 };
        nothing = ap (λ m. m.1) w1;
      };
      second = record {
        holding = record { table = c.split_seat.ensures.3 ∙ table; small = h2.holding.small; armed = sym (ap (λ m. m.0.armed) w2); seat = seen_seat c.laws.ensures n second.number log second.seat.me c.split_seat.result.me h2.holding.seat goes.1 w2 };
        nothing = ap (λ m. m.1) w2;
      };
      one = seen_log c.laws.ensures n first.number log first.seat.me c.split_seat.new.seat.me h1.holding.seat goes.0 w1
          ∙ sym (seen_log c.laws.ensures n second.number log second.seat.me c.split_seat.result.me h2.holding.seat goes.1 w2);
      first_learned = seen_learned c.laws.ensures n first.number log first.seat.me c.split_seat.new.seat.me h1.holding.seat goes.0 w1;
      second_learned = seen_learned c.laws.ensures n second.number log second.seat.me c.split_seat.result.me h2.holding.seat goes.1 w2;
      first_told = seen_notes c.laws.ensures n first.number log first.seat.me c.split_seat.new.seat.me h1.holding.seat goes.0 w1;
      second_told = seen_notes c.laws.ensures n second.number log second.seat.me c.split_seat.result.me h2.holding.seat goes.1 w2;
    }

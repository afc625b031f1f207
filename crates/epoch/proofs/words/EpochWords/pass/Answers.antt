use Rattle.std.proofs.Common.{sym, arith}
use Rattle.std.proofs.Common.{ltb-true, ltb-false}
use Rattle.epoch.proofs.Steps.{passes}
use Rattle.epoch.proofs.Scanning.{passed_cleared, passed_above, passed_not, passed_only}
use Rattle.epoch.proofs.words.EpochWords.pass.Goals as goal

pub load-found-requires : goal.load-found-requires
load-found-requires c =
    let sized = c.args.self.now.sized in
    let shared = c.args.self.now.table.shared in (
      c.requires.of,
      omega (arith, c.word_index-word.ensures, c.requires.below),
      passes shared.key shared.table_id.slots c.args.seat.now.id c.args.seat.now.me c.args.number c.word_index-word.result c.word_index-word.ensures
          (sym c.requires.next) (omega (arith, c.requires.below, c.args.self.now.keyed)),
    )

pub returns-then-found-eq0-clause-only : goal.returns-then-found-eq0-clause-only
returns-then-found-eq0-clause-only c =
    passed_only c.args.e c.load-found.result c.args.seat.now.me c.load-found.new.seat.me c.load-found.ensures.2

pub returns-else-found-eq0-clause-only : goal.returns-else-found-eq0-clause-only
returns-else-found-eq0-clause-only c =
    passed_only c.args.e c.load-found.result c.args.seat.now.me c.load-found.new.seat.me c.load-found.ensures.2

pub returns-then-found-eq0-clause-past : goal.returns-then-found-eq0-clause-past
returns-then-found-eq0-clause-past c h =
    passed_cleared c.args.e c.load-found.result c.args.seat.now.me c.load-found.new.seat.me c.args.number c.requires.next c.load-found.ensures.2 c.requires.above c.if-found-eq0.true

pub returns-else-found-eq0-clause-past : goal.returns-else-found-eq0-clause-past
returns-else-found-eq0-clause-past c h =
    passed_above c.args.e c.load-found.result c.args.seat.now.me c.load-found.new.seat.me c.args.number c.requires.next c.load-found.ensures.2 c.requires.above
    (ltb-true c.args.e c.load-found.result h)

pub returns-else-found-eq0-clause-blocked : goal.returns-else-found-eq0-clause-blocked
returns-else-found-eq0-clause-blocked c h =
    passed_not c.args.e c.load-found.result c.args.seat.now.me c.load-found.new.seat.me c.load-found.ensures.2 c.if-found-eq0.false
    (ltb-false c.args.e c.load-found.result h)

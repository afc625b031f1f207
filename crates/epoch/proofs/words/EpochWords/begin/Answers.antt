use Rattle.std.proofs.Common.{arith}
use Rattle.std.proofs.Common.{ltb-true, ltb-false}
use Rattle.epoch.proofs.Steps.{begins}
use Rattle.epoch.proofs.Scanning.{began, began_not, began_only}
use Rattle.epoch.proofs.words.EpochWords.begin.Goals as goal

pub load-requires : goal.load-requires
load-requires c =
    let sized = c.args.self.now.sized in
    let shared = c.args.self.now.table.shared in
    (c.requires, omega arith, begins shared.key shared.table_id.slots c.args.seat.now.id c.args.seat.now.me)

pub returns-clause-only : goal.returns-clause-only
returns-clause-only c = began_only c.args.e c.load.result c.args.seat.now.me c.load.new.seat.me c.load.ensures.2

pub returns-clause-past : goal.returns-clause-past
returns-clause-past c h =
    began c.args.e c.load.result c.args.seat.now.me c.load.new.seat.me c.load.ensures.2 (ltb-true c.args.e c.load.result h)

pub returns-clause-blocked : goal.returns-clause-blocked
returns-clause-blocked c h =
    began_not c.args.e c.load.result c.args.seat.now.me c.load.new.seat.me c.load.ensures.2 (ltb-false c.args.e c.load.result h)

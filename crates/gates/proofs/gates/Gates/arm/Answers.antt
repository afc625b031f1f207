use Rattle.std.proofs.Common.{◌∙◌, sym, arith}
use Rattle.gates.proofs.Steps.{arms}
use Rattle.gates.proofs.gates.Gates.arm.Goals as goal

pub load-requires : goal.load-requires
load-requires g c =
    let h = c.requires in
    let sized = c.args.self.now.sized in
    let shared = c.args.self.now.table.shared in (
      h.table,
      omega arith,
      arms c.laws.ensures g.T.Part.meaning shared.key shared.table_id.slots c.args.pass.now.seat.id c.args.pass.now.seat.me h.seat.single (sym h.armed ∙ c.if-pass.false),
    )

use Rattle.std.proofs.Common.{arith, sym, ◌∙◌}
use Rattle.schedules.proofs.Readings.{no_piece, length-spelling, reads_piece}
use Rattle.schedules.proofs.lines.piece.Goals as goal
use Rattle.schedules.proofs.lines.piece.Goals.{then-is_empty-via-then-is_empty, then-is_empty-via-else-is_empty+then-text}

pub returns-then-is_empty : goal.returns-then-is_empty
returns-then-is_empty c =
    no_piece c.args.limits.now c.args.client.now c.args.text.now (λ bytes are some most is.
    let two = length-spelling c.args.text.now bytes is in
    elim c.then-is_empty.branch [ then-is_empty-via-then-is_empty w ↦ grind (arith, w.if-is_empty.ensures) | then-is_empty-via-else-is_empty+then-text w ↦ omega arith ])

pub returns : goal.returns
returns c =
    let are = rw c.in-Some-2.is at c.in_ok-bytes.ensures in
    reads_piece c.args.limits.now c.in-Some.client c.args.client.now c.args.text.now c.in_ok-from_vec.field-0 c.in-Some-2.bytes.items
    c.in-Some.ensures c.in_ok-from_vec.ensures.ok are (sym c.if-is_empty.ensures) c.if-text.false

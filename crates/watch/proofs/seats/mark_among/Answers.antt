use Rattle.std.proofs.Common.{false, sym, ◌∙◌}
use Rattle.std.proofs.lemmas.List.{at_drop_more}
use Rattle.watch.specs.Marked.{mark_among}
use Rattle.watch.proofs.Changes.{passed_over}
use Rattle.watch.proofs.seats.mark_among.Goals as goal

pub loop-mark-preserved : goal.loop-mark-preserved
loop-mark-preserved c =
    sym (at_drop_more (λ marks. mark_among marks c.args.seat) c.args.marks.now c.loop-mark.mark-index (record { seat = 0; written = false }) c.loop-mark-test.true
    ∙ passed_over _ _ c.args.seat c.if-mark-seat.false)
    ∙ c.loop-mark.invariant

use Rattle.std.proofs.Common.{◌≡◌, sym, ap, ◌∙◌, add-one, map, slice_index_or, slice_set, false}
use Rattle.std.proofs.lemmas.List.{with_items_is}
use Rattle.watch.specs.Marked.{mark_among}
use Rattle.watch.proofs.Changes.{written_up_to, made_written, written_more, all_written_up_to, all_written}
use Rattle.watch.proofs.seats.touch_all.Goals as goal

pub loop-mark-preserved : goal.loop-mark-preserved
loop-mark-preserved c =
    let i = c.loop-mark.mark-index in
    ap (λ items. slice_set items i (made_written (slice_index_or items i (record { seat = 0; written = false })))) c.loop-mark.invariant
    ∙ written_more c.deref_mut-mark-items.result.now i (record { seat = 0; written = false })
    ∙ ap (λ n. written_up_to n c.deref_mut-mark-items.result.now) (sym (add-one i))

pub returns : goal.returns
returns c = λ s.
    let all : c.loop-mark.mark-items ≡ map made_written c.args.marks.now.items =
    c.loop-mark.invariant
    ∙ all_written_up_to c.deref_mut-mark-items.result.now c.loop-mark.mark-index c.loop-mark-test.false
    ∙ ap (λ marks. map made_written marks) c.deref_mut-mark-items.ensures.value in
    ap (λ items. mark_among items s) (with_items_is c.args.marks.now c.loop-mark.mark-items (c.loop-mark.auto.mark-items ∙ c.deref_mut-mark-items.ensures.len) ∙ all)
    ∙ all_written c.args.marks.now.items s

use Rattle.std.proofs.Common.{length, ◌∷◌, ◌∙◌, ◌+◌, ap, sym, arith, drop}
use Rattle.std.proofs.lemmas.List.{drop_more, length-append}
use Rattle.words.specs.Answers.{is_some}
use Rattle.strings.specs.declared.overlay.Overlay.{Overlay}
use Rattle.strings.specs.Overlays.{shown}
use Rattle.strings.proofs.Deleting.{deleted_writes, passed_over}
use Rattle.strings.proofs.writing.delete.Goals as goal
use Rattle.strings.proofs.writing.delete.Goals.{then-has+in_ok-write, else-has}

pub loop-key-preserved : goal.loop-key-preserved
loop-key-preserved c =
    let split = drop_more c.args.keys.now c.loop-key.key-index c.key-item.result c.loop-key-test.true
    ∙ ap (λ key. key ∷ drop (c.loop-key.key-index + 1) c.args.keys.now) (sym c.key-item.is) in
    let test = ap (λ key. is_some (shown c.loop-key.overlay key)) (sym c.as_slice.ensures) ∙ sym c.has.ensures in
    elim c.if-has.branch [
      | then-has+in_ok-write w ↦
          let found = ap (λ (overlay : Overlay). overlay.found) w.overlay-is ∙ w.in_ok-write.ensures.found in
          let step = deleted_writes c.loop-key.overlay c.if-has.overlay c.key-item.result _ _ split _ _ c.loop-key.invariant.writes
          c.loop-key.count c.loop-key.invariant.counts (test ∙ w.if-has.true) found
          (ap (λ (overlay : Overlay). overlay.writes) w.overlay-is ∙ w.in_ok-write.ensures.writes) in
          let longer = ap (λ (overlay : Overlay). length overlay.writes) w.overlay-is ∙ ap length w.in_ok-write.ensures.writes ∙ length-append c.loop-key.overlay.writes _ in
          record { found = found ∙ c.loop-key.invariant.found; more = omega (arith, longer, c.loop-key.invariant.more); writes = step.0; counts = omega (arith, step.1); below = omega arith }
      | else-has w ↦
          let step = passed_over c.loop-key.overlay c.if-has.overlay c.key-item.result _ _ split _ _ c.loop-key.invariant.writes
          c.loop-key.count c.loop-key.invariant.counts (test ∙ w.if-has.false) w.overlay-is in
          let same = ap (λ (overlay : Overlay). length overlay.writes) w.overlay-is in
          record { found = ap (λ (overlay : Overlay). overlay.found) w.overlay-is ∙ c.loop-key.invariant.found; more = omega (arith, same, c.loop-key.invariant.more); writes = step.0; counts = omega (arith, step.1); below = omega arith }
    ]

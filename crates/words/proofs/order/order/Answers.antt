use Rattle.std.proofs.Common.{◌∙◌, ◌-◌, arith}
use Rattle.words.proofs.Beginnings.{apart, more, fewer, by_lengths}
use Rattle.words.proofs.order.order.Goals as goal

pub returns-then-is_ne : goal.returns-then-is_ne
returns-then-is_ne c =
    apart _ _ _ _ c.loop-from.from 8 _ (omega arith) (omega arith) c.loop-from.invariant.1
    c.eight_at.ensures c.eight_at-in-loop-from.ensures c.order_of_eight-found.ensures c.if-is_ne.ensures

pub loop-from-preserved : goal.loop-from-preserved
loop-from-preserved c = (
  omega arith,
  more _ _ _ _ c.loop-from.from 8 _ (omega arith) (omega arith) c.loop-from.invariant.1
      c.eight_at.ensures c.eight_at-in-loop-from.ensures c.order_of_eight-found.ensures c.if-is_ne.ensures,
)

pub returns-then-is_ne-2 : goal.returns-then-is_ne-2
returns-then-is_ne-2 c =
    apart _ _ _ _ (c.min-both.result - 8) 8 _ (omega arith) (omega arith) (fewer _ c.loop-from.from _ _ (omega arith) c.loop-from.invariant.1)
    c.eight_at-2.ensures c.eight_at-3.ensures c.order_of_eight-last.ensures c.if-is_ne-2.ensures

pub returns : goal.returns
returns c =
    let all = more c.args.a.now c.args.b.now _ _ (c.min-both.result - 8) 8 _ (omega arith) (omega arith) (fewer _ c.loop-from.from _ _ (omega arith) c.loop-from.invariant.1)
    c.eight_at-2.ensures c.eight_at-3.ensures c.order_of_eight-last.ensures c.if-is_ne-2.ensures in
    c.cmp.ensures ∙ by_lengths c.min-both.result _ _ c.min-both.ensures (fewer _ _ _ _ (omega arith) all)

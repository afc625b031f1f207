use Rattle.std.proofs.Common.{◌≡◌, ◌∙◌, ◌-◌, refl, take, arith}
use Rattle.words.proofs.Beginnings.{apart, more, fewer, by_lengths}
use Rattle.words.proofs.order.order_short.Goals as goal

pub returns-then-is_ne-2 : goal.returns-then-is_ne-2
returns-then-is_ne-2 c =
    let first : take 4 c.args.a.now ≡ take 4 c.args.b.now =
    more _ _ _ _ 0 4 _ (omega arith) (omega arith) refl c.four_at.ensures c.four_at-2.ensures c.order_of_four-found.ensures c.if-is_ne.ensures in
    apart _ _ _ _ (c.args.both - 4) 4 _ (omega arith) (omega arith) (fewer _ 4 _ _ (omega arith) first)
    c.four_at-3.ensures c.four_at-4.ensures c.order_of_four-last.ensures c.if-is_ne-2.ensures

pub returns : goal.returns
returns c =
    let first : take 4 c.args.a.now ≡ take 4 c.args.b.now =
    more _ _ _ _ 0 4 _ (omega arith) (omega arith) refl c.four_at.ensures c.four_at-2.ensures c.order_of_four-found.ensures c.if-is_ne.ensures in
    let all = more c.args.a.now c.args.b.now _ _ (c.args.both - 4) 4 _ (omega arith) (omega arith) (fewer _ 4 _ _ (omega arith) first)
    c.four_at-3.ensures c.four_at-4.ensures c.order_of_four-last.ensures c.if-is_ne-2.ensures in
    c.cmp.ensures ∙ by_lengths c.args.both _ _ c.requires.both (fewer _ _ _ _ (omega arith) all)

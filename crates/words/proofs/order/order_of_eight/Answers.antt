use Rattle.std.proofs.Common.{◌∙◌}
use Rattle.std.specs.Ordering.{nat_cmp}
use Rattle.words.proofs.Beginnings.{by_eight}
use Rattle.words.proofs.order.order_of_eight.Goals as goal

pub returns : goal.returns
returns c =
    c.cmp.ensures ∙ (λ i. nat_cmp (c.from_be_bytes.ensures i) (c.from_be_bytes-2.ensures i))
    ∙ by_eight c.args.x.now c.args.y.now c.fits-x c.fits-y c.told-x c.told-y

use Rattle.std.proofs.Common.{◌-◌, ◌∙◌, ap, slice_get}
use Rattle.resp_read.proofs.PieceLemmas.{filled_at, none_there}
use Rattle.resp_read.proofs.pieces.Pieces.get.Goals as goal

pub returns-in-Some-clause-filled : goal.returns-in-Some-clause-filled
returns-in-Some-clause-filled c =
    rw c.as_slice-in-Some.ensures (filled_at c.self.inside.later.items (c.args.index - 1) c.in-Some.piece.now c.self.invariant.filled c.in-Some.ensures.item.3.0 c.in-Some.ensures.lookup)

pub returns-in-None-clause-value : goal.returns-in-None-clause-value
returns-in-None-clause-value c =
    none_there c.self.inside.oldest c.self.inside.later.items c.args.index c.if-index-eq0.false c.in-None.ensures.item.3 ∙ ap (λ pieces. slice_get pieces c.args.index) c.self.view_is

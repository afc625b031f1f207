use Rattle.std.proofs.Common.{◌≡◌, ◌-◌, [], length, ◌∙◌, ap, ℕ, arith}
use Rattle.std.specs.Prelude.{slice_index_or}
use Rattle.records.specs.Page.{used_end}
use Rattle.hybrid.proofs.Tail.{tail-laid, used-fits}
use Rattle.hybrid.proofs.stripe.Stripe.tail_end.Goals as goal

pub returns-clause-laid_out : goal.returns-clause-laid_out
returns-clause-laid_out g c =
    let fits = used-fits _ (tail-laid _ c.self.invariant.0) in
    let place : c.next_number.result - 1 - c.self.inside.frames.oldest ≡ length c.self.inside.frames.pages - 1 = omega (arith, c.next_number.ensures.number, c.self.invariant.0.tail) in
    let same : c.in-Some.page.now ≡ slice_index_or c.self.inside.frames.pages (length c.self.inside.frames.pages - 1) [] = c.in-Some.ensures.bytes ∙ ap (λ (n : ℕ). slice_index_or c.self.inside.frames.pages n []) place in
    let end = c.used_end.ensures ∙ ap used_end same in
    (omega (arith, end, fits.0), omega (arith, end, fits.1))

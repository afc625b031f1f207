use Rattle.std.proofs.Common.{◌≡◌, None, ap, sym, subst, arith}
use Rattle.hybrid.specs.HybridLog.{HybridLog, IsHybridLog, count_kept, log_of}
use Rattle.hybrid.specs.Log.{contents}
use Rattle.hybrid.proofs.Starting.{empty-contents, empty-is, empty-from, first-page}
use Rattle.hybrid.proofs.stripe.Stripe.new.Goals as goal

pub invariant_of-result : goal.invariant_of-result
invariant_of-result g c =
    let l = c.args.limits.now in
    let same = empty-from (λ r. record { identity = g.R.Shows.identity r; shown = g.R.Shows.shown r }) c.push_back_reserved.new.self.items c.in_ok-receipts.receipts.items c.in_ok-frames.frames c.open_next.new.self c.in_ok-index.index l.stripes l.buckets l.frames l.places
    l.stripes_in_range.0 l.buckets_in_range.0 l.frames_in_range.0 c.in_ok-receipts.ensures.items c.push_back_reserved.ensures.items c.in_ok-frames.ensures c.in-Ok.ensures.opened c.in_ok-index.ensures c.in-Ok.ensures.empty in (
      subst (λ (p : HybridLog). IsHybridLog p) (sym same) (empty-is l.stripes l.buckets l.frames l.places l.stripes_in_range.0 l.buckets_in_range.0 l.frames_in_range.0 (first-page c.in_ok-frames.frames l.frames c.in_ok-frames.ensures c.in-Ok.ensures.empty)),
      omega (arith, c.push_back_reserved.ensures.capacity, c.in_ok-receipts.ensures.capacity, ap (λ r. r.frames) c.in-Ok.ensures.opened, ap (λ r. r.frames) c.in_ok-frames.ensures),
      sym (ap (λ (p : HybridLog). count_kept p.kept) same),
    )

pub returns-clause-empty : goal.returns-clause-empty
returns-clause-empty g c =
    let l = c.args.limits.now in
    empty-from (λ r. record { identity = g.R.Shows.identity r; shown = g.R.Shows.shown r }) c.push_back_reserved.new.self.items c.in_ok-receipts.receipts.items c.in_ok-frames.frames c.open_next.new.self c.in_ok-index.index l.stripes l.buckets l.frames l.places
    l.stripes_in_range.0 l.buckets_in_range.0 l.frames_in_range.0 c.in_ok-receipts.ensures.items c.push_back_reserved.ensures.items c.in_ok-frames.ensures c.in-Ok.ensures.opened c.in_ok-index.ensures c.in-Ok.ensures.empty

pub returns-clause-contents : goal.returns-clause-contents
returns-clause-contents g c = λ key.
    let l = c.args.limits.now in
    let same = empty-from (λ r. record { identity = g.R.Shows.identity r; shown = g.R.Shows.shown r }) c.push_back_reserved.new.self.items c.in_ok-receipts.receipts.items c.in_ok-frames.frames c.open_next.new.self c.in_ok-index.index l.stripes l.buckets l.frames l.places
    l.stripes_in_range.0 l.buckets_in_range.0 l.frames_in_range.0 c.in_ok-receipts.ensures.items c.push_back_reserved.ensures.items c.in_ok-frames.ensures c.in-Ok.ensures.opened c.in_ok-index.ensures c.in-Ok.ensures.empty in
    subst (λ (p : HybridLog). contents (log_of p) key ≡ None) (sym same)
    (empty-contents l.stripes l.buckets l.frames l.places (first-page c.in_ok-frames.frames l.frames c.in_ok-frames.ensures c.in-Ok.ensures.empty) key)

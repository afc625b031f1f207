use Rattle.std.proofs.Common.{◌≡◌, ◌∙◌, ap, arith, subst, sym}
use Rattle.hybrid.specs.HybridLog.{HasRoom, HybridLog, count_kept}
use Rattle.shards.specs.Counted.{Counted, waiting_of}
use Rattle.shards.proofs.Counts.{count_none}
use Rattle.shards.proofs.counted.CountedLog.append_one.Goals as goal

pub invariant_of-self : goal.invariant_of-self
invariant_of-self g c =
    let grown = c.append_one.ensures.grown in
    let same : count_kept c.append_one.new.self.kept ≡ count_kept c.self.inside.stripe.kept = ap count_kept grown.kept ∙ count_none c.self.inside.stripe.kept grown.opened in (
      omega (arith, same, grown.unreleased, c.self.invariant.0),
      omega (arith, grown.places, c.self.invariant.1),
      omega (arith, grown.places, c.self.invariant.2),
      omega (arith, grown.places, c.self.invariant.3),
    )

pub returns-clause-room : goal.returns-clause-room
returns-clause-room g c =
    let same = ap (λ (x : Counted). x.log) c.self.view_is in
    λ more light room. c.append_one.ensures.room more light (subst (λ (p : HybridLog). HasRoom p more) (sym same) room)

pub returns-clause-waits : goal.returns-clause-waits
returns-clause-waits g c = ap (λ (x : Counted). waiting_of x) c.self.view_is

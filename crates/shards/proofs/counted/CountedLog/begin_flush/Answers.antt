use Rattle.std.proofs.Common.{◌∙◌, ap, subst}
use Rattle.hybrid.specs.HybridLog.{HybridLog}
use Rattle.hybrid.specs.Reserving.{IsFull}
use Rattle.shards.specs.Counted.{Counted, IsFirstSealed}
use Rattle.shards.proofs.counted.CountedLog.begin_flush.Goals as goal

pub returns-then-not-take_place-clause-begun : goal.returns-then-not-take_place-clause-begun
returns-then-not-take_place-clause-begun g c = subst IsFull (ap (λ (x : Counted). x.log) c.self.view_is) c.if-not-take_place.ensures.full.0

pub returns-clause-begun : goal.returns-clause-begun
returns-clause-begun g c =
    subst (λ (p : HybridLog). IsFirstSealed p c.in-Some.number c.copy_from.new.self) (ap (λ (x : Counted). x.log) c.self.view_is)
    (record { sealed = c.in-Some.ensures.0; first = c.in-Some.ensures.1; copied = c.copy_from.ensures ∙ c.in-Some-page.ensures.bytes })

use Rattle.std.proofs.Common.{◌∙◌, ap, sym, subst, Option, ℕ}
use Rattle.hybrid.specs.HybridLog.{IsHybridLog}
use Rattle.hybrid.specs.Reserving.{IsFull}
use Rattle.shards.specs.Counted.{Counted}
use Rattle.world_model.specs.Logs.{copied_page}
use Rattle.world_log.specs.Beside.{beside_of, log_state}
use Rattle.world_log.specs.declared.queues.Flushing.TheVariants as has
use Rattle.world_log.proofs.Agreeing.{copies_may, copies_not, idle_is, oldest_is}
use Rattle.world_log.proofs.AllGiven.{copy_given}
use Rattle.world_log.proofs.CountSteps.{copied_agrees}
use Rattle.world_log.proofs.works.copy.Goals as goal

pub returns-in_ok-page-in-Sealed-clause-does : goal.returns-in_ok-page-in-Sealed-clause-does
returns-in_ok-page-in-Sealed-clause-does c =
    let old : Counted = c.args.log.now in
    let never : IsFull old.log → ⊥ = λ full. let is = c.if-is_full.ensures.1 (subst IsFull (sym c.stripe-else-not-is_idle.ensures.log) full) in absurd cc in
    let fit : IsHybridLog old.log = subst IsHybridLog c.stripe.ensures.log c.oldest-oldest.ensures.log in
    record {
      enabled =
          copies_may old.log (beside_of old c.args.queues.now) fit c.requires.agrees.counted c.in-Sealed.number c.in-Sealed.ensures.begun.sealed
          c.in-Sealed.ensures.begun.first (sym c.if-not-is_idle.ensures) never;
      done =
          ap (λ (x : Counted). log_state x.log (beside_of x (record c.args.queues.now { flushing = has.Copied c.in-Sealed.number c.in_ok-page-in-Sealed.page }))) c.in-Sealed.ensures.counted
          ∙ ap (λ (o : Option ℕ). record (log_state old.log (beside_of old c.args.queues.now)) { flushing = copied_page o })
          (sym (oldest_is old.log (beside_of old c.args.queues.now) fit c.in-Sealed.number c.in-Sealed.ensures.begun.sealed c.in-Sealed.ensures.begun.first));
    }

pub returns-in_ok-page-in-Sealed-clause-given : goal.returns-in_ok-page-in-Sealed-clause-given
returns-in_ok-page-in-Sealed-clause-given c = copy_given c.args.log.now c.begin_flush.new.self c.args.queues.now c.in-Sealed.number _ c.in-Sealed.ensures.counted

pub returns-in_ok-page-in-Sealed-clause-agrees : goal.returns-in_ok-page-in-Sealed-clause-agrees
returns-in_ok-page-in-Sealed-clause-agrees c =
    copied_agrees c.args.log.now c.begin_flush.new.self c.args.queues.now c.in-Sealed.number _ c.in-Sealed.ensures.counted c.requires.agrees
    (idle_is c.args.queues.now.flushing (sym c.if-not-is_idle.ensures)) c.in-Sealed.ensures.begun.sealed.below (c.in_ok-page-in-Sealed.ensures ∙ c.in-Sealed.ensures.begun.copied)

pub returns-in-Idle-clause-does : goal.returns-in-Idle-clause-does
returns-in-Idle-clause-does c = record {
  enabled = copies_not c.args.log.now.log (beside_of c.args.log.now c.args.queues.now) (subst IsHybridLog c.stripe.ensures.log c.oldest-oldest.ensures.log) c.in-Idle.ensures.begun;
  log = ap (λ (x : Counted). x.log) c.in-Idle.ensures.counted;
  beside = ap (λ (x : Counted). beside_of x c.args.queues.now) c.in-Idle.ensures.counted;
}

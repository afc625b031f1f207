use Rattle.std.proofs.Common.{◌≡◌, ◌∙◌, List, ℕ, ap, sym, subst}
use Rattle.hybrid.specs.HybridLog.{IsHybridLog}
use Rattle.shards.specs.Counted.{HasLanded}
use Rattle.world_log.specs.Places.{view}
use Rattle.world_log.specs.Beside.{Agrees, IsFaithful, beside_of, has_receipt, log_state}
use Rattle.world_log.specs.Given.{KeepsGiven}
use Rattle.world_log.specs.declared.queues.Flushing.{Flushing}
use Rattle.world_log.specs.declared.queues.Flushing.TheVariants.{Wrote}
use Rattle.world_log.proofs.AllGiven.{landed_given}
use Rattle.world_log.proofs.CountSteps.{landed_agrees, landed_alike, landed_done, one_flies}
use Rattle.world_log.proofs.works.install.Goals as goal

pub land-requires-clause-shown : goal.land-requires-clause-shown
land-requires-clause-shown c =
    let is : c.args.queues.now.flushing ≡ Wrote c.in-Wrote.number c.in-Wrote.page c.in-Wrote.receipt = sym c.replace.ensures.value ∙ c.in-Wrote.is in
    let faithful : IsFaithful c.args.log.now.log (Wrote c.in-Wrote.number c.in-Wrote.page c.in-Wrote.receipt) = subst (IsFaithful c.args.log.now.log) is c.requires.agrees.faithful in
    faithful.2 ∙ sym c.deref.ensures

pub land-requires-clause-some : goal.land-requires-clause-some
land-requires-clause-some c =
    one_flies c.args.log.now c.args.queues.now c.in-Wrote.number c.in-Wrote.page c.in-Wrote.receipt c.requires.agrees (sym c.replace.ensures.value ∙ c.in-Wrote.is)

pub returns-in-Wrote-clause-does : goal.returns-in-Wrote-clause-does
returns-in-Wrote-clause-does c =
    let is : c.args.queues.now.flushing ≡ Wrote c.in-Wrote.number c.in-Wrote.page c.in-Wrote.receipt = sym c.replace.ensures.value ∙ c.in-Wrote.is in
    record {
      enabled = ap has_receipt is;
      done =
          ap (λ (f : Flushing). log_state c.land.new.self.log (beside_of c.land.new.self (record c.args.queues.now { flushing = f }))) c.replace.ensures.after
          ∙ landed_done c.args.log.now c.land.new.self c.args.queues.now c.in-Wrote.number c.in-Wrote.page c.in-Wrote.receipt
          (subst IsHybridLog c.stripe.ensures.log c.oldest-oldest.ensures.log) c.requires.agrees is
          (subst (λ (bytes : List ℕ). HasLanded c.args.log.now c.in-Wrote.number bytes (view c.in-Wrote.receipt) c.land.new.self) c.deref.ensures c.land.ensures.landed);
    }

pub returns-in-Wrote-clause-agrees : goal.returns-in-Wrote-clause-agrees
returns-in-Wrote-clause-agrees c =
    let is : c.args.queues.now.flushing ≡ Wrote c.in-Wrote.number c.in-Wrote.page c.in-Wrote.receipt = sym c.replace.ensures.value ∙ c.in-Wrote.is in
    subst (λ (f : Flushing). Agrees c.land.new.self (record c.args.queues.now { flushing = f })) (sym c.replace.ensures.after)
    (landed_agrees c.args.log.now c.land.new.self c.args.queues.now c.in-Wrote.number c.in-Wrote.page c.in-Wrote.receipt
    (subst IsHybridLog c.stripe.ensures.log c.oldest-oldest.ensures.log) c.requires.agrees is
    (subst (λ (bytes : List ℕ). HasLanded c.args.log.now c.in-Wrote.number bytes (view c.in-Wrote.receipt) c.land.new.self) c.deref.ensures c.land.ensures.landed))

pub returns-in-Wrote-clause-given : goal.returns-in-Wrote-clause-given
returns-in-Wrote-clause-given c =
    let is : c.args.queues.now.flushing ≡ Wrote c.in-Wrote.number c.in-Wrote.page c.in-Wrote.receipt = sym c.replace.ensures.value ∙ c.in-Wrote.is in
    subst (λ (f : Flushing). KeepsGiven c.args.log.now.log (beside_of c.args.log.now c.args.queues.now) c.land.new.self.log (beside_of c.land.new.self (record c.args.queues.now { flushing = f })))
    (sym c.replace.ensures.after)
    (landed_given c.args.log.now c.land.new.self c.args.queues.now c.in-Wrote.number c.in-Wrote.page c.in-Wrote.receipt _ is c.land.ensures.landed)

pub returns-in-Wrote-clause-alike : goal.returns-in-Wrote-clause-alike
returns-in-Wrote-clause-alike c =
    let is : c.args.queues.now.flushing ≡ Wrote c.in-Wrote.number c.in-Wrote.page c.in-Wrote.receipt = sym c.replace.ensures.value ∙ c.in-Wrote.is in
    landed_alike c.args.log.now c.land.new.self c.args.queues.now c.in-Wrote.number c.in-Wrote.page c.in-Wrote.receipt
    (subst IsHybridLog c.stripe.ensures.log c.oldest-oldest.ensures.log) c.requires.agrees is
    (subst (λ (bytes : List ℕ). HasLanded c.args.log.now c.in-Wrote.number bytes (view c.in-Wrote.receipt) c.land.new.self) c.deref.ensures c.land.ensures.landed)

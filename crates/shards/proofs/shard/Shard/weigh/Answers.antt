use Rattle.std.proofs.Common.{◌≡◌, ◌≤◌, ◌<◌, ◌∙◌, ◌+◌, Some, refl, ap, subst}
use Rattle.std.specs.Prelude.{⊤}
use Rattle.hybrid.specs.HybridLog.{HybridLog, Kept, receipt_of}
use Rattle.hybrid.specs.Staging.{IsMissing}
use Rattle.hybrid.specs.Weighing.{MatchWeighed, oldest_weight}
use Rattle.hybrid.specs.declared.stripe.TheConstants.{CLEAN_WEIGHT}
use Rattle.shards.specs.Cleaning.{IsFetched, IsWanted}
use Rattle.shards.specs.Shards.{shard_log}
use Rattle.shards.proofs.Cleaned.{fault_more, fetched_less, weighed_by}
use Rattle.shards.proofs.shard.Shard.weigh.Goals as goal

pub loop-number-init : goal.loop-number-init
loop-number-init g c = record { right = λ t right. right; releases = refl; failures = refl }

pub returns-then-not-reads-clause-right : goal.returns-then-not-reads-clause-right
returns-then-not-reads-clause-right g c = c.loop-number.invariant.right

pub returns-then-not-reads-clause-no_release : goal.returns-then-not-reads-clause-no_release
returns-then-not-reads-clause-no_release g c = c.loop-number.invariant.releases

pub returns-then-not-reads-clause-failed : goal.returns-then-not-reads-clause-failed
returns-then-not-reads-clause-failed g c = record { fault = tt; no_fault = c.loop-number.invariant.failures }

pub returns-then-not-reads-clause-weighed : goal.returns-then-not-reads-clause-weighed
returns-then-not-reads-clause-weighed g c = record {
  unread = c.if-not-reads.true;
  unlent = c.in-Cold.ensures.lent;
  missing = subst (λ (p : HybridLog). IsMissing p c.loop-number.staged c.in-Cold.number) c.stripe.ensures.log c.in-Cold.ensures.cold;
}

pub loop-number-smaller : goal.loop-number-smaller
loop-number-smaller g c =
    fetched_less c.reading_ends.ensures (shard_log c.args.self.now) c.in-Cold.number c.loop-number.staged c.fetch.new.staged
    (subst (λ (p : HybridLog). IsMissing p c.loop-number.staged c.in-Cold.number) c.stripe.ensures.log c.in-Cold.ensures.cold)
    (subst (λ (p : HybridLog). IsFetched p c.in-Cold.number c.loop-number.staged c.fetch.new.staged) c.stripe-in-Cold.ensures.log c.in_default-fetch.ensures.fetched)

pub loop-number-preserved : goal.loop-number-preserved
loop-number-preserved g c =
    let inv = c.loop-number.invariant in
    record {
      right = λ t right. c.fetch.ensures.right t (inv.right t right);
      releases = c.fetch.ensures.no_release ∙ inv.releases;
      failures = c.in_default-fetch.ensures.no_fault ∙ inv.failures;
    }

pub returns-in-Err-clause-right : goal.returns-in-Err-clause-right
returns-in-Err-clause-right g c = λ t right. c.fetch.ensures.right t (c.loop-number.invariant.right t right)

pub returns-in-Err-clause-no_release : goal.returns-in-Err-clause-no_release
returns-in-Err-clause-no_release g c = c.fetch.ensures.no_release ∙ c.loop-number.invariant.releases

pub returns-in-Err-clause-failed : goal.returns-in-Err-clause-failed
returns-in-Err-clause-failed g c = record {
  fault = fault_more c.in-Err.fault _ _ _ _ (λ same. (c.in-Cold.ensures.lent, same ∙ c.loop-number.invariant.failures)) (λ more. more ∙ ap (λ n. n + 1) c.loop-number.invariant.failures) c.in-Err.ensures.fault;
  no_fault = tt;
}

pub returns-in_default : goal.returns-in_default
returns-in_default g c =
    let inv = c.loop-number.invariant in
    record {
      right = inv.right;
      weighed = subst (λ (p : HybridLog). MatchWeighed c.weigh_oldest.result (λ weight. (weight ≤ CLEAN_WEIGHT) × (p.oldest < p.resident.oldest))
          (IsWanted c.args.reads g.R.Shows.lends c.args.self.now c.loop-number.staged) (p.resident.oldest ≡ p.oldest)) c.stripe.ensures.log
          (weighed_by c.weigh_oldest.result _ _ _ _ c.in_default.not-Cold c.weigh_oldest.ensures.most c.weigh_oldest.ensures.resident);
      weighs = λ t right. subst (λ (p : HybridLog). MatchWeighed c.weigh_oldest.result (λ weight. weight ≡ oldest_weight p) (λ number. ⊤) ⊤) c.stripe.ensures.log
          (c.weigh_oldest.ensures.weight (g.met.R.Shows.steady_is_honest t) right);
      kept = subst (λ (p : HybridLog). MatchWeighed c.weigh_oldest.result (λ weight. (kept : Kept) × (receipt_of p p.oldest ≡ Some kept)) (λ number. ⊤) ⊤) c.stripe.ensures.log c.weigh_oldest.ensures.kept;
      no_release = inv.releases;
      failed = record { fault = tt; no_fault = inv.failures };
    }

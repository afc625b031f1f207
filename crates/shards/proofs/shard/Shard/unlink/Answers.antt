use Rattle.std.proofs.Common.{◌≡◌, ◌<◌, ◌∙◌, ◌+◌, refl, sym, ap, subst}
use Rattle.std.specs.Prelude.{⊤}
use Rattle.hybrid.specs.HybridLog.{HasRoom, HybridLog}
use Rattle.hybrid.specs.Weighing.{oldest_weight}
use Rattle.hybrid.specs.Reading.{unread}
use Rattle.hybrid.specs.Staging.{IsMissing}
use Rattle.shards.specs.Cleaning.{IsFetched, SameWaiting}
use Rattle.shards.specs.Counted.{Counted, HasUnlinked, MatchCleaning}
use Rattle.shards.specs.Shards.{shard_counted, shard_log, shard_marks, shard_store}
use Rattle.shards.specs.declared.shard.Shard.{Shard}
use Rattle.shards.proofs.Cleaned.{cleaned_by, fault_more, fetched_less, same_waiting, waiting_by}
use Rattle.shards.proofs.shard.Shard.unlink.Goals as goal

pub loop-number-init : goal.loop-number-init
loop-number-init g c = record { same = refl; right = λ t right. right; releases = refl; failures = refl }

pub clean_oldest-requires : goal.clean_oldest-requires
clean_oldest-requires g c = record { room = subst (λ (s : Shard _). HasRoom (shard_log s) c.args.weight) (sym c.loop-number.invariant.same) c.requires.room }

pub returns-then-not-reads-clause-meaning : goal.returns-then-not-reads-clause-meaning
returns-then-not-reads-clause-meaning g c = record {
  right = c.loop-number.invariant.right;
  store = λ t right key.
      ap (λ (l : Counted). shard_store (record c.loop-number.self { log = l }) key) c.in-Cold.ensures.unchanged ∙ ap (λ (s : Shard _). shard_store s key) c.loop-number.invariant.same;
  marks = ap (λ (s : Shard _). shard_marks s) c.loop-number.invariant.same;
}

pub returns-then-not-reads-clause-unlinked : goal.returns-then-not-reads-clause-unlinked
returns-then-not-reads-clause-unlinked g c = (
  ap (λ (l : Counted). record c.loop-number.self { log = l }) c.in-Cold.ensures.unchanged ∙ c.loop-number.invariant.same,
  record {
    unread = c.if-not-reads.true;
    unlent = c.in-Cold.ensures.lent;
    missing = subst (λ (l : Counted). IsMissing l.log c.loop-number.staged c.in-Cold.number) (sym c.in-Cold.ensures.unchanged) c.in-Cold.ensures.cold;
  },
)

pub returns-then-not-reads-clause-no_release : goal.returns-then-not-reads-clause-no_release
returns-then-not-reads-clause-no_release g c = c.loop-number.invariant.releases

pub returns-then-not-reads-clause-failed : goal.returns-then-not-reads-clause-failed
returns-then-not-reads-clause-failed g c = record { fault = tt; no_fault = c.loop-number.invariant.failures }

pub loop-number-smaller : goal.loop-number-smaller
loop-number-smaller g c =
    let same = ap (λ (l : Counted). l.log) c.in-Cold.ensures.unchanged in
    subst (λ (p : HybridLog). unread p c.fetch.new.staged < unread (shard_log c.loop-number.self) c.loop-number.staged) (sym same)
    (fetched_less c.reading_ends.ensures (shard_log c.loop-number.self) c.in-Cold.number c.loop-number.staged c.fetch.new.staged c.in-Cold.ensures.cold
    (subst (λ (p : HybridLog). IsFetched p c.in-Cold.number c.loop-number.staged c.fetch.new.staged) (c.stripe.ensures.log ∙ same) c.in_default-fetch.ensures.fetched))

pub loop-number-preserved : goal.loop-number-preserved
loop-number-preserved g c =
    let inv = c.loop-number.invariant in
    record {
      same = ap (λ (l : Counted). record c.loop-number.self { log = l }) c.in-Cold.ensures.unchanged ∙ inv.same;
      right = λ t right. c.fetch.ensures.right t (inv.right t right);
      releases = c.fetch.ensures.no_release ∙ inv.releases;
      failures = c.in_default-fetch.ensures.no_fault ∙ inv.failures;
    }

pub returns-in-Err-clause-meaning : goal.returns-in-Err-clause-meaning
returns-in-Err-clause-meaning g c = record {
  right = λ t right. c.fetch.ensures.right t (c.loop-number.invariant.right t right);
  store = λ t right key.
      ap (λ (l : Counted). shard_store (record c.loop-number.self { log = l }) key) c.in-Cold.ensures.unchanged ∙ ap (λ (s : Shard _). shard_store s key) c.loop-number.invariant.same;
  marks = ap (λ (s : Shard _). shard_marks s) c.loop-number.invariant.same;
}

pub returns-in-Err-clause-same : goal.returns-in-Err-clause-same
returns-in-Err-clause-same g c = ap (λ (l : Counted). record c.loop-number.self { log = l }) c.in-Cold.ensures.unchanged ∙ c.loop-number.invariant.same

pub returns-in-Err-clause-no_release : goal.returns-in-Err-clause-no_release
returns-in-Err-clause-no_release g c = c.fetch.ensures.no_release ∙ c.loop-number.invariant.releases

pub returns-in-Err-clause-failed : goal.returns-in-Err-clause-failed
returns-in-Err-clause-failed g c = record {
  fault = fault_more c.in-Err.fault _ _ _ _ (λ same. (c.in-Cold.ensures.lent, same ∙ c.loop-number.invariant.failures)) (λ more. more ∙ ap (λ n. n + 1) c.loop-number.invariant.failures) c.in-Err.ensures.fault;
  no_fault = tt;
}

pub returns-in_default : goal.returns-in_default
returns-in_default g c =
    let inv = c.loop-number.invariant in
    let whole : c.clean_oldest.new.self ≡ c.loop-number.self.log → record c.loop-number.self { log = c.clean_oldest.new.self } ≡ c.args.self.now =
    λ unchanged. ap (λ (l : Counted). record c.loop-number.self { log = l }) unchanged ∙ inv.same in
    record {
      meaning = record {
        right = inv.right;
        store = λ t right key. (c.clean_oldest.ensures.right (g.met.R.Shows.steady_is_honest t) (inv.right t right)).same key ∙ ap (λ (s : Shard _). shard_store s key) inv.same;
        marks = ap (λ (s : Shard _). shard_marks s) inv.same;
      };
      unlinked = cleaned_by c.clean_oldest.result _ _ _ _ _ _ _ _ _ c.in_default.not-Cold
          (λ unlinked. subst (λ (s : Shard _). HasUnlinked (shard_counted s) c.clean_oldest.new.self c.args.weight) inv.same unlinked)
          (λ w same heavy. (whole same, heavy))
          (λ same resident. (whole same, subst (λ (l : Counted). l.log.resident.oldest ≡ l.log.oldest) (sym same) resident))
          c.clean_oldest.ensures.unlinked c.clean_oldest.ensures.unchanged c.clean_oldest.ensures.heavy c.clean_oldest.ensures.resident;
      weighed = λ t right. subst (λ (s : Shard _). MatchCleaning c.clean_oldest.result ⊤ (λ number. ⊤) (λ heavy. heavy ≡ oldest_weight (shard_log s)) ⊤) inv.same
          (c.clean_oldest.ensures.right (g.met.R.Shows.steady_is_honest t) right).weighed;
      same = tt;
      waiting = subst (λ (s : Shard _). SameWaiting (shard_counted s) c.clean_oldest.new.self) inv.same
          (waiting_by c.clean_oldest.result _ _ c.args.weight c.clean_oldest.ensures.unlinked c.clean_oldest.ensures.unchanged);
      no_release = inv.releases;
      failed = record { fault = tt; no_fault = inv.failures };
    }

pub returns-then-not-reads-clause-waiting : goal.returns-then-not-reads-clause-waiting
returns-then-not-reads-clause-waiting g c =
    subst (λ (s : Shard _). SameWaiting (shard_counted s) c.clean_oldest.new.self) c.loop-number.invariant.same (same_waiting _ _ c.in-Cold.ensures.unchanged)

pub returns-in-Err-clause-waiting : goal.returns-in-Err-clause-waiting
returns-in-Err-clause-waiting g c =
    subst (λ (s : Shard _). SameWaiting (shard_counted s) c.clean_oldest.new.self) c.loop-number.invariant.same (same_waiting _ _ c.in-Cold.ensures.unchanged)

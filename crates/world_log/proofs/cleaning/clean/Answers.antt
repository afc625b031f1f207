use Rattle.std.proofs.Common.{◌∙◌, ◌<◌, ap, sym, subst}
use Rattle.hybrid.specs.HybridLog.{HybridLog, IsHybridLog}
use Rattle.hybrid.specs.Reading.{unread}
use Rattle.hybrid.specs.Staging.{IsMissing}
use Rattle.shards.specs.Counted as counting
use Rattle.shards.specs.Counted.{Counted}
use Rattle.world_log.specs.Cleaning.{AreServed}
use Rattle.world_log.proofs.AllGiven.{clean_given}
use Rattle.world_log.proofs.CleanSteps.{agrees_unlinked, fetched_less, has_unlinked, served_places}
use Rattle.world_log.proofs.cleaning.clean.Goals as goal

pub fetch-requires-clause-missing : goal.fetch-requires-clause-missing
fetch-requires-clause-missing c =
    subst (λ (q : HybridLog). IsMissing q c.loop-number.staged c.in-Cold.number) (sym (c.stripe-in-Cold.ensures.log ∙ ap (λ (x : Counted). x.log) c.in-Cold.ensures.unchanged)) c.in-Cold.ensures.cold

pub fetch-requires-clause-served : goal.fetch-requires-clause-served
fetch-requires-clause-served c =
    subst (λ (q : HybridLog). AreServed q c.loop-number.device) (sym (c.stripe-in-Cold.ensures.log ∙ ap (λ (x : Counted). x.log) c.in-Cold.ensures.unchanged)) c.loop-number.invariant.served

pub loop-number-smaller : goal.loop-number-smaller
loop-number-smaller c =
    let same = c.stripe-in-Cold.ensures.log ∙ ap (λ (x : Counted). x.log) c.in-Cold.ensures.unchanged in
    subst (λ (q : HybridLog). unread q c.fetch.new.staged < unread c.loop-number.log.log c.loop-number.staged) c.stripe-in-Cold.ensures.log
    (subst (λ (q : HybridLog). unread c.stripe-in-Cold.result.now c.fetch.new.staged < unread q c.loop-number.staged) same
    (fetched_less c.reading_ends.ensures c.stripe-in-Cold.result.now c.in-Cold.number c.loop-number.staged c.fetch.new.staged
    (subst (λ (q : HybridLog). IsMissing q c.loop-number.staged c.in-Cold.number) (sym same) c.in-Cold.ensures.cold)
    c.in_ok-fetch-in-Cold.ensures.fetched))

pub loop-number-preserved : goal.loop-number-preserved
loop-number-preserved c =
    let inv = c.loop-number.invariant in
    record {
      log = c.in-Cold.ensures.unchanged ∙ inv.log;
      right = c.in_ok-fetch-in-Cold.ensures.right inv.right;
      served =
          served_places c.clean_oldest.new.self.log c.loop-number.device c.fetch.new.device c.in_ok-fetch-in-Cold.ensures.places
          (subst (λ (x : Counted). AreServed x.log c.loop-number.device) (sym c.in-Cold.ensures.unchanged) inv.served);
      places = c.in_ok-fetch-in-Cold.ensures.places ∙ inv.places;
    }

pub returns-in-Unlinked-clause-does : goal.returns-in-Unlinked-clause-does
returns-in-Unlinked-clause-does c =
    let inv = c.loop-number.invariant in
    has_unlinked c.args.log.now c.clean_oldest.new.self c.args.weight c.args.queues.now (subst IsHybridLog c.stripe.ensures.log c.oldest-oldest.ensures.log)
    c.requires.cold c.requires.most
    (subst (λ (x : Counted). counting.HasUnlinked x c.clean_oldest.new.self c.args.weight) inv.log c.in-Unlinked.ensures.unlinked)

pub returns-in-Unlinked-clause-given : goal.returns-in-Unlinked-clause-given
returns-in-Unlinked-clause-given c =
    let inv = c.loop-number.invariant in
    clean_given c.args.log.now c.clean_oldest.new.self c.args.queues.now c.args.weight
    (subst (λ (x : Counted). counting.HasUnlinked x c.clean_oldest.new.self c.args.weight) inv.log c.in-Unlinked.ensures.unlinked)

pub returns-in-Unlinked-clause-agrees : goal.returns-in-Unlinked-clause-agrees
returns-in-Unlinked-clause-agrees c =
    let inv = c.loop-number.invariant in
    let left = subst (λ (x : Counted). counting.HasUnlinked x c.clean_oldest.new.self c.args.weight) inv.log c.in-Unlinked.ensures.unlinked in
    agrees_unlinked c.args.log.now c.clean_oldest.new.self c.args.weight c.args.queues.now c.requires.agrees left
    (has_unlinked c.args.log.now c.clean_oldest.new.self c.args.weight c.args.queues.now (subst IsHybridLog c.stripe.ensures.log c.oldest-oldest.ensures.log)
    c.requires.cold c.requires.most left)

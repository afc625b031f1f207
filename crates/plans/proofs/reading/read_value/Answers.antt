use Rattle.std.proofs.Common.{◌∙◌, arith, ◌<◌, ◌≤◌, [], ◌∷◌, ℕ, List, length, unwrap_or, refl, sym, ap, subst}
use Rattle.transact.specs.Tables.{AllRead, AreThere, joined}
use Rattle.words.specs.declared.word.TheConstants.{WORD_INLINE}
use Rattle.hybrid.specs.Staging.{AreRight, StagedPage}
use Rattle.plans.specs.Memory.{AreAtHand}
use Rattle.plans.specs.Reading.{unread}
use Rattle.shards.specs.Shards.{logs_of, shard_meaning}
use Rattle.words.specs.History.{after}
use Rattle.plans.proofs.Hand.{none_cold}
use Rattle.plans.proofs.Logs.{logs_same}
use Rattle.plans.proofs.Questions.{no_faults, stop_then, unread as unread_stop}
use Rattle.plans.proofs.Unread.{are_cold_served, reads_fewer}
use Rattle.plans.proofs.reading.read_value.Goals as goal

pub loop-value-init : goal.loop-value-init
loop-value-init g c = record {
  is_open = c.requires.may.can_lend;
  keeps = g.met.P.Parts.keeps_same c.args.parts.now;
  same = refl;
  failures = refl;
  still = λ r is. is;
  right = λ right served. right;
  first = λ hand. refl;
}

pub value_of-requires : goal.value_of-requires
value_of-requires g c = record {
  may = record {
    can_lend = c.loop-value.invariant.is_open;
    there = rw (g.met.P.Parts.same_stripes c.args.parts.now c.loop-value.parts c.loop-value.invariant.keeps) (subst (λ p. AreThere (g.P.Parts.stripes_of c.args.parts.now) p (c.args.key.now ∷ [])) (sym c.loop-value.invariant.same) c.requires.may.there);
  };
}

pub loop-value-preserved : goal.loop-value-preserved
loop-value-preserved g c =
    let inv = c.loop-value.invariant in
    let n : ℕ = g.P.Parts.stripes_of c.args.parts.now in
    let start = g.P.Parts.part_of c.args.parts.now in
    let before = g.P.Parts.part_of c.loop-value.parts in
    let stop = rw (c.in-Err-Cold.field-0-is, g.met.P.Parts.same_stripes c.args.parts.now c.loop-value.parts c.loop-value.invariant.keeps) at c.in-Err-Cold.ensures.stopped in
    record {
      is_open = c.value_of.ensures.held.open_still;
      keeps = g.met.P.Parts.keeps_both c.args.parts.now c.loop-value.parts c.value_of.new.parts inv.keeps c.value_of.ensures.held.kept;
      same = c.value_of.ensures.same ∙ inv.same;
      failures = c.in_default.ensures.came.no_fault ∙ inv.failures;
      still = λ r is. c.read_all.ensures.still_served r (inv.still r is);
      right = λ right served. c.read_all.ensures.right
          (are_cold_served g.D.Device.serves g.R.Shows.identity n (logs_of start) (logs_of before) (c.args.key.now ∷ []) c.loop-value.staged c.in-Err-Cold.receipts
          c.args.device.now c.loop-value.device c.loop-value.device (logs_same start before inv.same) inv.still refl served stop.cold)
          (inv.right right served);
      first = λ hand. absurd (none_cold g.R.Shows.lends n (logs_of before) (c.args.key.now ∷ []) c.loop-value.staged c.in-Err-Cold.receipts stop.unlent
          (subst (λ (staged : List StagedPage). AreAtHand g.R.Shows.lends n (logs_of before) (c.args.key.now ∷ []) staged) (sym (inv.first hand))
          (subst (λ p. AreAtHand g.R.Shows.lends n (logs_of p) (c.args.key.now ∷ []) c.args.staged.now) (sym inv.same) hand)) stop.cold);
    }

pub loop-value-smaller : goal.loop-value-smaller
loop-value-smaller g c =
    let n : ℕ = g.P.Parts.stripes_of c.args.parts.now in
    let before = g.P.Parts.part_of c.loop-value.parts in
    let stop = rw (c.in-Err-Cold.field-0-is, g.met.P.Parts.same_stripes c.args.parts.now c.loop-value.parts c.loop-value.invariant.keeps) at c.in-Err-Cold.ensures.stopped in
    subst (λ p. unread n (logs_of p) c.read_all.new.staged < unread n (logs_of before) c.loop-value.staged) (sym c.value_of.ensures.same)
    (reads_fewer c.reading_ends.ensures n (logs_of before) (c.args.key.now ∷ []) c.in-Err-Cold.receipts c.loop-value.staged c.read_all.new.staged (g.met.P.Parts.are_few c.args.parts.now c.requires.may.can_lend).0 stop.cold c.in_default.ensures.staged)

pub returns-in-Ok-clause-value : goal.returns-in-Ok-clause-value
returns-in-Ok-clause-value g c =
    let inv = c.loop-value.invariant in
    let n : ℕ = g.P.Parts.stripes_of c.args.parts.now in
    let contents = shard_meaning g.R.Shows.is_steady in
    let is = rw (g.met.P.Parts.same_stripes c.args.parts.now c.loop-value.parts c.loop-value.invariant.keeps) at c.in-Ok.ensures.value.is in
    let due = rw (g.met.P.Parts.same_stripes c.args.parts.now c.loop-value.parts c.loop-value.invariant.keeps) at c.in-Ok.ensures.value.due in
    record {
      is = λ right. is (right.0, inv.right right.1 right.2) ∙ ap (λ p. joined contents n p c.args.key.now) inv.same;
      due = λ right seen reads. due (right.0, inv.right right.1 right.2) seen (subst (λ p. AllRead contents n p (after seen)) (sym inv.same) reads);
    }

pub returns-in-Err-clause-stopped : goal.returns-in-Err-clause-stopped
returns-in-Err-clause-stopped g c =
    let inv = c.loop-value.invariant in
    let n : ℕ = g.P.Parts.stripes_of c.args.parts.now in
    let contents = shard_meaning g.R.Shows.is_steady in
    let before = g.P.Parts.part_of c.loop-value.parts in
    let stopped = rw (g.met.P.Parts.same_stripes c.args.parts.now c.loop-value.parts c.loop-value.invariant.keeps) at c.in-Err.ensures.stopped in
    stop_then c.in-Err.stop _ _ _ _ _ _ _ _ (λ receipts wanted. tt)
    (λ takes (is : g.R.Shows.is_honest × AreRight c.args.staged.now) hand brief. takes (is.0, subst AreRight (sym (inv.first hand)) is.1)
    (subst (λ (staged : List StagedPage). AreAtHand g.R.Shows.lends n (logs_of before) (c.args.key.now ∷ []) staged) (sym (inv.first hand))
    (subst (λ p. AreAtHand g.R.Shows.lends n (logs_of p) (c.args.key.now ∷ []) c.args.staged.now) (sym inv.same) hand))
    (subst (λ p. length (unwrap_or (joined contents n p c.args.key.now) []) ≤ WORD_INLINE) (sym inv.same) brief))
    (λ never. absurd never) (λ stripe never. never)
    stopped

pub returns-in-Err-clause-failed : goal.returns-in-Err-clause-failed
returns-in-Err-clause-failed g c = omega (arith, c.loop-value.invariant.failures, no_faults c.in-Err.stop _ _ _ c.in-Err.ensures.stopped)

pub returns-in-Err-read_all-clause-stopped : goal.returns-in-Err-read_all-clause-stopped
returns-in-Err-read_all-clause-stopped g c =
    let inv = c.loop-value.invariant in
    let n : ℕ = g.P.Parts.stripes_of c.args.parts.now in
    let before = g.P.Parts.part_of c.loop-value.parts in
    let stop = rw (c.in-Err-Cold.field-0-is, g.met.P.Parts.same_stripes c.args.parts.now c.loop-value.parts c.loop-value.invariant.keeps) at c.in-Err-Cold.ensures.stopped in
    stop_then c.in-Err-read_all.stop _ _ _ _ _ _ _ _ (λ receipts never. tt) (λ takes. takes) (λ fault. tt) (λ stripe never. never)
    (unread_stop c.in-Err-read_all.stop _ (λ stripe. ⊥) c.in-Err-read_all.ensures.came.never_cold c.in-Err-read_all.ensures.came.never_full
    (λ (is : g.R.Shows.is_honest × AreRight c.args.staged.now) hand brief. none_cold g.R.Shows.lends n (logs_of before) (c.args.key.now ∷ []) c.loop-value.staged c.in-Err-Cold.receipts stop.unlent
    (subst (λ (staged : List StagedPage). AreAtHand g.R.Shows.lends n (logs_of before) (c.args.key.now ∷ []) staged) (sym (inv.first hand))
    (subst (λ p. AreAtHand g.R.Shows.lends n (logs_of p) (c.args.key.now ∷ []) c.args.staged.now) (sym inv.same) hand)) stop.cold))

pub returns-in-Err-read_all-clause-right : goal.returns-in-Err-read_all-clause-right
returns-in-Err-read_all-clause-right g c = λ right served.
    let inv = c.loop-value.invariant in
    let n : ℕ = g.P.Parts.stripes_of c.args.parts.now in
    let start = g.P.Parts.part_of c.args.parts.now in
    let before = g.P.Parts.part_of c.loop-value.parts in
    let stop = rw (c.in-Err-Cold.field-0-is, g.met.P.Parts.same_stripes c.args.parts.now c.loop-value.parts c.loop-value.invariant.keeps) at c.in-Err-Cold.ensures.stopped in
    c.read_all.ensures.right
    (are_cold_served g.D.Device.serves g.R.Shows.identity n (logs_of start) (logs_of before) (c.args.key.now ∷ []) c.loop-value.staged c.in-Err-Cold.receipts
    c.args.device.now c.loop-value.device c.loop-value.device (logs_same start before inv.same) inv.still refl served stop.cold)
    (inv.right right served)

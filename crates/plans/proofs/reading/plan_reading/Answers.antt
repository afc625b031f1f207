use Rattle.std.proofs.Common.{◌∙◌, ◌+◌, ◌<◌, [], ℕ, List, refl, sym, ap, subst}
use Rattle.words.specs.Store.{Bytes}
use Rattle.transact.specs.Calls.{call_keys}
use Rattle.transact.specs.Plans.{keys_begun}
use Rattle.transact.specs.Tables.{AreThere, Became, joined, stays}
use Rattle.hybrid.specs.Staging.{AreRight, StagedPage}
use Rattle.plans.specs.Memory.{AreAtHand, NeedsNoMemoryOn}
use Rattle.plans.specs.Planning.{AreDue, AsksOn, HasMarked, LacksMemory, TakesMemory, of_call}
use Rattle.shards.specs.Receipts.{kept_by}
use Rattle.plans.specs.Reading.{AreServed, unread}
use Rattle.shards.specs.Shards.{SameLogs, logs_of, shard_meaning}
use Rattle.plans.specs.Stops.{faults, keys_looked_up}
use Rattle.plans.proofs.Hand.{none_cold}
use Rattle.shards.specs.Devices.{IsReadAlone, StillServes}
use Rattle.plans.proofs.Few.{more_both, more_none, read_both, read_same, still_both}
use Rattle.plans.proofs.Logs.{logs_both, logs_same}
use Rattle.plans.proofs.Questions.{planned_at, reads_stopped, stopped_reading}
use Rattle.plans.proofs.Spared.{spare_both, spare_same}
use Rattle.plans.proofs.Unread.{are_cold_served, reads_fewer}
use Rattle.plans.proofs.Waits.{waits_both, waits_same}
use Rattle.plans.proofs.reading.plan_reading.Goals as goal

pub loop-planned-init : goal.loop-planned-init
loop-planned-init g c = record {
  is_open = c.requires.may.may.can_lend;
  keeps = g.met.P.Parts.keeps_same c.args.parts.now;
  same = refl;
  failures = refl;
  grows = more_none c.args.staged.now;
  alone = read_same g.D.Device.serves g.D.Device.releases g.D.Device.writes c.args.device.now;
  still = λ r is. is;
  right = λ right served. right;
  first = λ hand. refl;
}

pub plan-requires : goal.plan-requires
plan-requires g c = record {
  may = record {
    may = record {
      can_lend = c.loop-planned.invariant.is_open;
      there = rw (g.met.P.Parts.same_stripes c.args.parts.now c.loop-planned.parts c.loop-planned.invariant.keeps) (subst (λ p. AreThere (g.P.Parts.stripes_of c.args.parts.now) p (call_keys c.args.call.now)) (sym c.loop-planned.invariant.same) c.requires.may.may.there);
    };
    entry = c.requires.may.entry;
    place = c.requires.may.place;
  };
}

pub loop-planned-preserved : goal.loop-planned-preserved
loop-planned-preserved g c =
    let inv = c.loop-planned.invariant in
    let keys : List Bytes = keys_looked_up c.args.call.now in
    let before = g.P.Parts.part_of c.loop-planned.parts in
    let stop = rw (c.in-Err-Cold.field-0-is, g.met.P.Parts.same_stripes c.args.parts.now c.loop-planned.parts c.loop-planned.invariant.keeps) at c.in-Err-Cold.ensures.stopped in
    record {
      is_open = c.plan.ensures.held.open_still;
      keeps = g.met.P.Parts.keeps_both c.args.parts.now c.loop-planned.parts c.plan.new.parts inv.keeps c.plan.ensures.held.kept;
      same = stop.untouched ∙ inv.same;
      failures = c.in_default.ensures.came.no_fault ∙ ap g.D.Device.failures stop.device ∙ inv.failures;
      grows = more_both c.args.staged.now c.loop-planned.staged c.read_all.new.staged inv.grows c.read_all.ensures.grows;
      alone = read_both g.D.Device.serves g.D.Device.releases g.D.Device.writes c.args.device.now c.loop-planned.device c.read_all.new.device inv.alone (subst (λ d. IsReadAlone g.D.Device.serves g.D.Device.releases g.D.Device.writes d c.read_all.new.device) stop.device c.read_all.ensures.device);
      still = λ r is. c.read_all.ensures.still_served r (subst (λ d. g.D.Device.serves d r) (sym stop.device) (inv.still r is));
      right = λ right served. c.read_all.ensures.right
          (are_cold_served g.D.Device.serves g.R.Shows.identity (g.P.Parts.stripes_of c.args.parts.now) (logs_of (g.P.Parts.part_of c.args.parts.now)) (logs_of before) (keys_looked_up c.args.call.now) c.loop-planned.staged c.in-Err-Cold.receipts
          c.args.device.now c.loop-planned.device c.plan.new.device (logs_same (g.P.Parts.part_of c.args.parts.now) before inv.same) inv.still stop.device served stop.wanted.cold)
          (inv.right right served);
      first = λ hand. absurd (none_cold g.R.Shows.lends (g.P.Parts.stripes_of c.args.parts.now) (logs_of before) keys c.loop-planned.staged c.in-Err-Cold.receipts stop.wanted.unlent
          (subst (λ (staged : List StagedPage). AreAtHand g.R.Shows.lends (g.P.Parts.stripes_of c.args.parts.now) (logs_of before) keys staged) (sym (inv.first hand))
          (subst (λ p. AreAtHand g.R.Shows.lends (g.P.Parts.stripes_of c.args.parts.now) (logs_of p) keys c.args.staged.now) (sym inv.same) hand)) stop.wanted.cold);
    }

pub loop-planned-smaller : goal.loop-planned-smaller
loop-planned-smaller g c =
    let n : ℕ = (g.P.Parts.stripes_of c.args.parts.now) in
    let before = g.P.Parts.part_of c.loop-planned.parts in
    let stop = rw (c.in-Err-Cold.field-0-is, g.met.P.Parts.same_stripes c.args.parts.now c.loop-planned.parts c.loop-planned.invariant.keeps) at c.in-Err-Cold.ensures.stopped in
    subst (λ p. unread n (logs_of p) c.read_all.new.staged < unread n (logs_of before) c.loop-planned.staged) (sym stop.untouched)
    (reads_fewer c.reading_ends.ensures n (logs_of before) (keys_looked_up c.args.call.now) c.in-Err-Cold.receipts c.loop-planned.staged c.read_all.new.staged (g.met.P.Parts.are_few c.args.parts.now c.requires.may.may.can_lend).0 stop.wanted.cold c.in_default.ensures.staged)

pub returns-in-Ok-clause-planned : goal.returns-in-Ok-clause-planned
returns-in-Ok-clause-planned g c =
    let inv = c.loop-planned.invariant in
    let n : ℕ = (g.P.Parts.stripes_of c.args.parts.now) in
    let contents = shard_meaning g.R.Shows.is_steady in
    let start = g.P.Parts.part_of c.args.parts.now in
    let before = g.P.Parts.part_of c.loop-planned.parts in
    let served = AreServed g.D.Device.serves g.R.Shows.identity c.args.device.now (logs_of start) in
    let planned = rw (g.met.P.Parts.same_stripes c.args.parts.now c.loop-planned.parts c.loop-planned.invariant.keeps, g.met.P.Parts.same_holder c.args.parts.now c.loop-planned.parts c.loop-planned.invariant.keeps) at c.in-Ok.ensures.planned in (
      c.loop-planned.device,
      inv.alone,
      planned_at g.D.Device.wrote (kept_by g.R.Shows.identity g.R.Shows.shown) (AreDue (g.R.Shows.is_honest × AreRight c.loop-planned.staged) (of_call contents n before (g.P.Parts.holder_of c.args.parts.now) c.args.call.now))
          (AreDue (g.R.Shows.is_honest × AreRight c.args.staged.now × served) (of_call contents n start (g.P.Parts.holder_of c.args.parts.now) c.args.call.now)) n start before c.loop-planned.device (g.P.Parts.part_of c.plan.new.parts, c.plan.new.device)
          c.in-Ok.planned inv.same
          (λ due is seen operation asks. due (is.0, inv.right is.1 is.2) seen operation (subst (λ p. AsksOn contents n p (g.P.Parts.holder_of c.args.parts.now) c.args.call.now seen operation) (sym inv.same) asks))
          planned,
    )

pub returns-in-Ok-clause-marks : goal.returns-in-Ok-clause-marks
returns-in-Ok-clause-marks g c =
    let marks = rw (g.met.P.Parts.same_stripes c.args.parts.now c.loop-planned.parts c.loop-planned.invariant.keeps, g.met.P.Parts.same_holder c.args.parts.now c.loop-planned.parts c.loop-planned.invariant.keeps) at c.in-Ok.ensures.marks in
    subst (λ p. HasMarked (shard_meaning g.R.Shows.is_steady) (g.P.Parts.stripes_of c.args.parts.now) (g.P.Parts.holder_of c.args.parts.now) (keys_begun c.args.call.now) p (g.P.Parts.part_of c.plan.new.parts) c.in-Ok.planned) c.loop-planned.invariant.same marks

pub returns-in-Err-clause-marks : goal.returns-in-Err-clause-marks
returns-in-Err-clause-marks g c =
    let marks = rw (g.met.P.Parts.same_stripes c.args.parts.now c.loop-planned.parts c.loop-planned.invariant.keeps) at c.in-Err.ensures.marks in
    subst (λ p. Became (shard_meaning g.R.Shows.is_steady) (g.P.Parts.stripes_of c.args.parts.now) [] stays p (g.P.Parts.part_of c.plan.new.parts)) c.loop-planned.invariant.same marks

pub returns-in-Err-clause-stopped : goal.returns-in-Err-clause-stopped
returns-in-Err-clause-stopped g c =
    let inv = c.loop-planned.invariant in
    let n : ℕ = (g.P.Parts.stripes_of c.args.parts.now) in
    let contents = shard_meaning g.R.Shows.is_steady in
    let start = g.P.Parts.part_of c.args.parts.now in
    let before = g.P.Parts.part_of c.loop-planned.parts in
    let later = g.P.Parts.part_of c.plan.new.parts in
    let keys : List Bytes = keys_looked_up c.args.call.now in
    let served = AreServed g.D.Device.serves g.R.Shows.identity c.args.device.now (logs_of start) in
    let stopped = rw (g.met.P.Parts.same_stripes c.args.parts.now c.loop-planned.parts c.loop-planned.invariant.keeps, g.met.P.Parts.same_holder c.args.parts.now c.loop-planned.parts c.loop-planned.invariant.keeps) at c.in-Err.ensures.stopped in
    stopped_reading g.D.Device.wrote (kept_by g.R.Shows.identity g.R.Shows.shown) c.in-Err.stop g.R.Shows.lends (g.R.Shows.is_honest × AreRight c.loop-planned.staged) (g.R.Shows.is_honest × AreRight c.args.staged.now × served)
    (AsksOn contents n before (g.P.Parts.holder_of c.args.parts.now) c.args.call.now) (AsksOn contents n start (g.P.Parts.holder_of c.args.parts.now) c.args.call.now) keys (NeedsNoMemoryOn (joined contents n before) c.args.call.now)
    (TakesMemory g.R.Shows.lends (g.R.Shows.is_honest × AreRight c.args.staged.now) n (of_call contents n start (g.P.Parts.holder_of c.args.parts.now) c.args.call.now) c.args.staged.now (logs_of start) × SameLogs start later)
    (λ read. IsReadAlone g.D.Device.serves g.D.Device.releases g.D.Device.writes c.args.device.now read) n c.loop-planned.staged start before c.loop-planned.device (later, c.plan.new.device) inv.same inv.alone
    (λ (is : g.R.Shows.is_honest × AreRight c.args.staged.now × AreServed g.D.Device.serves g.R.Shows.identity c.args.device.now (logs_of start)). (is.0, inv.right is.1 is.2))
    (λ seen operation asks. subst (λ p. AsksOn contents n p (g.P.Parts.holder_of c.args.parts.now) c.args.call.now seen operation) (sym inv.same) asks)
    (λ (lacks : LacksMemory g.R.Shows.lends (g.R.Shows.is_honest × AreRight c.loop-planned.staged) n (of_call contents n before (g.P.Parts.holder_of c.args.parts.now) c.args.call.now) c.loop-planned.staged (before, c.loop-planned.device) (later, c.plan.new.device)). let takes : TakesMemory g.R.Shows.lends (g.R.Shows.is_honest × AreRight c.args.staged.now) n (of_call contents n start (g.P.Parts.holder_of c.args.parts.now) c.args.call.now) c.args.staged.now (logs_of start) =
    λ (is : g.R.Shows.is_honest × AreRight c.args.staged.now) hand brief. lacks.takes (is.0, subst AreRight (sym (inv.first hand)) is.1)
    (subst (λ (staged : List StagedPage). AreAtHand g.R.Shows.lends n (logs_of before) keys staged) (sym (inv.first hand))
    (subst (λ p. AreAtHand g.R.Shows.lends n (logs_of p) keys c.args.staged.now) (sym inv.same) hand))
    (subst (λ p. NeedsNoMemoryOn (joined contents n p) c.args.call.now) (sym inv.same) brief) in
    let both : TakesMemory g.R.Shows.lends (g.R.Shows.is_honest × AreRight c.args.staged.now) n (of_call contents n start (g.P.Parts.holder_of c.args.parts.now) c.args.call.now) c.args.staged.now (logs_of start) × SameLogs start later =
    (takes, logs_both start before later (logs_same start before inv.same) lacks.logs) in
    both)
    stopped

pub returns-in-Ok-clause-pages : goal.returns-in-Ok-clause-pages
returns-in-Ok-clause-pages g c = (c.loop-planned.invariant.grows, c.loop-planned.invariant.right)

pub returns-in-Err-clause-pages : goal.returns-in-Err-clause-pages
returns-in-Err-clause-pages g c = (c.loop-planned.invariant.grows, c.loop-planned.invariant.right)

pub returns-in-Ok-clause-stands : goal.returns-in-Ok-clause-stands
returns-in-Ok-clause-stands g c = record {
  serves = still_both g.D.Device.serves g.D.Device.releases g.D.Device.writes c.args.device.now c.loop-planned.device c.plan.new.device c.loop-planned.invariant.alone.serves_still c.plan.ensures.stands.serves;
  waits = waits_both (g.P.Parts.part_of c.args.parts.now) (g.P.Parts.part_of c.loop-planned.parts) (g.P.Parts.part_of c.plan.new.parts)
      (waits_same (g.P.Parts.part_of c.args.parts.now) (g.P.Parts.part_of c.loop-planned.parts) c.loop-planned.invariant.same) c.plan.ensures.stands.waits;
  rooms = spare_both (logs_of (g.P.Parts.part_of c.args.parts.now)) (logs_of (g.P.Parts.part_of c.loop-planned.parts)) (logs_of (g.P.Parts.part_of c.plan.new.parts))
      (spare_same (logs_of (g.P.Parts.part_of c.args.parts.now)) (logs_of (g.P.Parts.part_of c.loop-planned.parts)) (logs_same (g.P.Parts.part_of c.args.parts.now) (g.P.Parts.part_of c.loop-planned.parts) c.loop-planned.invariant.same)) c.plan.ensures.stands.rooms;
}

pub returns-in-Ok-clause-held : goal.returns-in-Ok-clause-held
returns-in-Ok-clause-held g c = record {
  open_still = c.plan.ensures.held.open_still;
  kept = g.met.P.Parts.keeps_both c.args.parts.now c.loop-planned.parts c.plan.new.parts c.loop-planned.invariant.keeps c.plan.ensures.held.kept;
}

pub returns-in-Err-clause-stands : goal.returns-in-Err-clause-stands
returns-in-Err-clause-stands g c = record {
  serves = still_both g.D.Device.serves g.D.Device.releases g.D.Device.writes c.args.device.now c.loop-planned.device c.plan.new.device c.loop-planned.invariant.alone.serves_still c.plan.ensures.stands.serves;
  waits = waits_both (g.P.Parts.part_of c.args.parts.now) (g.P.Parts.part_of c.loop-planned.parts) (g.P.Parts.part_of c.plan.new.parts)
      (waits_same (g.P.Parts.part_of c.args.parts.now) (g.P.Parts.part_of c.loop-planned.parts) c.loop-planned.invariant.same) c.plan.ensures.stands.waits;
  rooms = spare_both (logs_of (g.P.Parts.part_of c.args.parts.now)) (logs_of (g.P.Parts.part_of c.loop-planned.parts)) (logs_of (g.P.Parts.part_of c.plan.new.parts))
      (spare_same (logs_of (g.P.Parts.part_of c.args.parts.now)) (logs_of (g.P.Parts.part_of c.loop-planned.parts)) (logs_same (g.P.Parts.part_of c.args.parts.now) (g.P.Parts.part_of c.loop-planned.parts) c.loop-planned.invariant.same)) c.plan.ensures.stands.rooms;
}

pub returns-in-Err-clause-held : goal.returns-in-Err-clause-held
returns-in-Err-clause-held g c = record {
  open_still = c.plan.ensures.held.open_still;
  kept = g.met.P.Parts.keeps_both c.args.parts.now c.loop-planned.parts c.plan.new.parts c.loop-planned.invariant.keeps c.plan.ensures.held.kept;
}

pub returns-in-Ok-clause-failed : goal.returns-in-Ok-clause-failed
returns-in-Ok-clause-failed g c = c.in-Ok.ensures.failed ∙ c.loop-planned.invariant.failures

pub returns-in-Err-clause-failed : goal.returns-in-Err-clause-failed
returns-in-Err-clause-failed g c = c.in-Err.ensures.failed ∙ ap (λ (k : ℕ). k + faults c.in-Err.stop) c.loop-planned.invariant.failures

pub returns-in-Err-read_all-clause-pages : goal.returns-in-Err-read_all-clause-pages
returns-in-Err-read_all-clause-pages g c = (
  more_both c.args.staged.now c.loop-planned.staged c.read_all.new.staged c.loop-planned.invariant.grows c.read_all.ensures.grows,
  λ right served.
      let inv = c.loop-planned.invariant in
      let before = g.P.Parts.part_of c.loop-planned.parts in
      let stop = rw (c.in-Err-Cold.field-0-is, g.met.P.Parts.same_stripes c.args.parts.now c.loop-planned.parts c.loop-planned.invariant.keeps) at c.in-Err-Cold.ensures.stopped in
      c.read_all.ensures.right
      (are_cold_served g.D.Device.serves g.R.Shows.identity (g.P.Parts.stripes_of c.args.parts.now) (logs_of (g.P.Parts.part_of c.args.parts.now)) (logs_of before) (keys_looked_up c.args.call.now) c.loop-planned.staged c.in-Err-Cold.receipts
      c.args.device.now c.loop-planned.device c.plan.new.device (logs_same (g.P.Parts.part_of c.args.parts.now) before inv.same) inv.still stop.device served stop.wanted.cold)
      (inv.right right served),
)

pub returns-in-Err-read_all-clause-stands : goal.returns-in-Err-read_all-clause-stands
returns-in-Err-read_all-clause-stands g c =
    let start = g.P.Parts.part_of c.args.parts.now in
    let later = g.P.Parts.part_of c.plan.new.parts in
    let stop = rw c.in-Err-Cold.field-0-is at c.in-Err-Cold.ensures.stopped in
    let same = stop.untouched ∙ c.loop-planned.invariant.same in
    record {
      serves = still_both g.D.Device.serves g.D.Device.releases g.D.Device.writes c.args.device.now c.loop-planned.device c.read_all.new.device c.loop-planned.invariant.alone.serves_still
          (subst (λ d. StillServes g.D.Device.serves g.D.Device.releases d c.read_all.new.device) stop.device c.read_all.ensures.device.serves_still);
      waits = waits_same start later same;
      rooms = spare_same (logs_of start) (logs_of later) (logs_same start later same);
    }

pub returns-in-Err-read_all-clause-stopped : goal.returns-in-Err-read_all-clause-stopped
returns-in-Err-read_all-clause-stopped g c =
    let inv = c.loop-planned.invariant in
    let n : ℕ = (g.P.Parts.stripes_of c.args.parts.now) in
    let start = g.P.Parts.part_of c.args.parts.now in
    let before = g.P.Parts.part_of c.loop-planned.parts in
    let later = g.P.Parts.part_of c.plan.new.parts in
    let keys : List Bytes = keys_looked_up c.args.call.now in
    let stop = rw (c.in-Err-Cold.field-0-is, g.met.P.Parts.same_stripes c.args.parts.now c.loop-planned.parts c.loop-planned.invariant.keeps) at c.in-Err-Cold.ensures.stopped in
    let takes : TakesMemory g.R.Shows.lends (g.R.Shows.is_honest × AreRight c.args.staged.now) n (of_call (shard_meaning g.R.Shows.is_steady) n start (g.P.Parts.holder_of c.args.parts.now) c.args.call.now) c.args.staged.now (logs_of start) =
    λ is hand brief. none_cold g.R.Shows.lends n (logs_of before) keys c.loop-planned.staged c.in-Err-Cold.receipts stop.wanted.unlent
    (subst (λ (staged : List StagedPage). AreAtHand g.R.Shows.lends n (logs_of before) keys staged) (sym (inv.first hand)) (subst (λ p. AreAtHand g.R.Shows.lends n (logs_of p) keys c.args.staged.now) (sym inv.same) hand)) stop.wanted.cold in
    reads_stopped c.in-Err-read_all.stop _ _ c.in-Err-read_all.ensures.came.never_cold c.in-Err-read_all.ensures.came.never_full (takes, logs_same start later (stop.untouched ∙ inv.same))

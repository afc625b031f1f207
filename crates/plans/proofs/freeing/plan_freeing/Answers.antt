use Rattle.std.proofs.Common.{◌∙◌, ◌+◌, ◌≤◌, List, ℕ, refl, ap, arith}
use Rattle.std.proofs.lemmas.Bool.{not-false, not-true}
use Rattle.transact.specs.Calls.{call_keys}
use Rattle.transact.specs.Plans.{keys_begun}
use Rattle.transact.specs.Tables.{joined}
use Rattle.shards.specs.Shards.{logs_of, shard_meaning}
use Rattle.words.specs.declared.limits.TheConstants.{WEIGHT_MAX}
use Rattle.words.specs.Store.{Write, weight}
use Rattle.plans.specs.Planning.{AreMade, of_call}
use Rattle.plans.specs.Stops.{faults}
use Rattle.hybrid.specs.Staging.{AreRight}
use Rattle.plans.proofs.Questions.{stop_then}
use Rattle.plans.proofs.Become.{became_same, became_twice, there_after}
use Rattle.plans.proofs.Freed.{asks_after, begins_after, begun_after, full_still, full_there, heard_more, heard_none, heard_worn, joined_same, lasts_freed, lasts_none, lasts_still, logs_still, needs_same, spent_at, waits_fewer}
use Rattle.plans.proofs.Making.{lacking_at}
use Rattle.plans.proofs.Spared.{left_since, share_since, share_until, spare_both, spare_freed, spare_same}
use Rattle.plans.proofs.freeing.plan_freeing.Goals as goal

pub freed-init : goal.freed-init
freed-init g c =
    let parts = g.P.Parts.part_of c.args.parts.now in
    record {
      is_open = c.requires.may.may.can_lend;
      keeps = g.met.P.Parts.keeps_same c.args.parts.now;
      is = c.requires.is;
      right = λ steady right. right;
      became = became_same (shard_meaning g.R.Shows.is_steady) (g.P.Parts.stripes_of c.args.parts.now) parts parts refl;
      rooms = spare_same (logs_of parts) (logs_of parts) (λ i. refl);
      lasts = lasts_none parts;
      heard = heard_none (g.S.Retires.knows c.args.hands.now.own);
      same = refl;
    }

pub plan_staged-requires : goal.plan_staged-requires
plan_staged-requires g c = record {
  may = record {
    may = record {
      can_lend = c.freed.invariant.is_open;
      there = rw (g.met.P.Parts.same_stripes c.args.parts.now c.freed.parts c.freed.invariant.keeps) (there_after (shard_meaning g.R.Shows.is_steady) (g.P.Parts.stripes_of c.args.parts.now) (call_keys c.args.call.now) (g.P.Parts.part_of c.args.parts.now) (g.P.Parts.part_of c.freed.parts) c.freed.invariant.became.there c.requires.may.may.there);
    };
    entry = c.requires.may.entry;
    place = c.requires.may.place;
  };
}

pub free_at-freed-requires-clause-there : goal.free_at-freed-requires-clause-there
free_at-freed-requires-clause-there g c =
    let stop = rw (c.in-Err-StoreFull.field-0-is, g.met.P.Parts.same_stripes c.args.parts.now c.freed.parts c.freed.invariant.keeps, g.met.P.Parts.same_holder c.args.parts.now c.freed.parts c.freed.invariant.keeps) at c.in-Err-StoreFull.ensures.stopped in
    full_there (g.P.Parts.part_of c.plan_staged.new.parts) c.in-Err-StoreFull.stripe stop.full

pub freed-preserved : goal.freed-preserved
freed-preserved g c =
    let m = shard_meaning g.R.Shows.is_steady in
    let n : ℕ = (g.P.Parts.stripes_of c.args.parts.now) in
    let inv = c.freed.invariant in
    let start = g.P.Parts.part_of c.args.parts.now in
    let now = g.P.Parts.part_of c.freed.parts in
    let mid = g.P.Parts.part_of c.plan_staged.new.parts in
    let last = g.P.Parts.part_of c.free_at-freed.new.parts in
    let faulty = rw c.in-Err-StoreFull.field-0-is at c.in-Err-StoreFull.ensures.failed in
    record {
      is_open = c.free_at-freed.ensures.held.open_still;
      keeps = g.met.P.Parts.keeps_both c.args.parts.now c.plan_staged.new.parts c.free_at-freed.new.parts
          (g.met.P.Parts.keeps_both c.args.parts.now c.freed.parts c.plan_staged.new.parts inv.keeps c.plan_staged.ensures.held.kept) c.free_at-freed.ensures.held.kept;
      is = c.free_at-freed.ensures.is;
      right = λ steady right. c.plan_staged.ensures.right steady (inv.right steady right);
      became = became_twice m n start mid last (became_twice m n start now mid inv.became (rw (g.met.P.Parts.same_stripes c.args.parts.now c.freed.parts c.freed.invariant.keeps) at c.in-Err-StoreFull.ensures.marks)) (rw (g.met.P.Parts.same_stripes c.args.parts.now c.plan_staged.new.parts (g.met.P.Parts.keeps_both c.args.parts.now c.freed.parts c.plan_staged.new.parts c.freed.invariant.keeps c.plan_staged.ensures.held.kept)) at c.free_at-freed.ensures.became);
      rooms = spare_both (logs_of start) (logs_of mid) (logs_of last) (spare_both (logs_of start) (logs_of now) (logs_of mid) inv.rooms c.plan_staged.ensures.rooms)
          (spare_freed mid last c.in-Err-StoreFull.stripe c.free_at-freed.result c.free_at-freed.ensures.freed);
      lasts = lasts_freed start mid last c.in-Err-StoreFull.stripe c.free_at-freed.result (lasts_still start now mid inv.lasts c.plan_staged.ensures.waits) c.free_at-freed.ensures.freed;
      heard = heard_more c.free_at-freed.result.refused.retire (g.S.Retires.knows c.args.hands.now.own) (g.S.Retires.knows c.freed.hands.own) (g.S.Retires.knows c.free_at-freed.new.own) inv.heard c.free_at-freed.ensures.told;
      same = omega (arith, c.free_at-freed.ensures.no_fault, faulty, inv.same);
    }

pub freed-smaller : goal.freed-smaller
freed-smaller g c =
    let stop = rw (c.in-Err-StoreFull.field-0-is, g.met.P.Parts.same_stripes c.args.parts.now c.freed.parts c.freed.invariant.keeps, g.met.P.Parts.same_holder c.args.parts.now c.freed.parts c.freed.invariant.keeps) at c.in-Err-StoreFull.ensures.stopped in
    waits_fewer (g.P.Parts.stripes_of c.args.parts.now) c.in-Err-StoreFull.stripe (g.P.Parts.part_of c.freed.parts) (g.P.Parts.part_of c.plan_staged.new.parts) (g.P.Parts.part_of c.free_at-freed.new.parts) c.free_at-freed.result
    stop.below (not-false c.free_at-freed.result.released c.if-not-freed.false) c.plan_staged.ensures.waits c.free_at-freed.ensures.freed

pub returns-in-Ok-clause-works : goal.returns-in-Ok-clause-works
returns-in-Ok-clause-works g c = record {
  retires = record { is = c.freed.invariant.is; heard = c.freed.invariant.heard };
  right = λ steady right. c.plan_staged.ensures.right steady (c.freed.invariant.right steady right);
}

pub returns-in-Ok-clause-ready : goal.returns-in-Ok-clause-ready
returns-in-Ok-clause-ready g c =
    let inv = c.freed.invariant in
    let n : ℕ = g.P.Parts.stripes_of c.args.parts.now in
    let holder : ℕ = g.P.Parts.holder_of c.args.parts.now in
    let due = rw (g.met.P.Parts.same_stripes c.args.parts.now c.freed.parts c.freed.invariant.keeps, g.met.P.Parts.same_holder c.args.parts.now c.freed.parts c.freed.invariant.keeps) at c.in-Ok.ensures.ready.due in
    record {
      due = λ right seen operation asks. due (right.0, inv.right right.0 right.1) seen operation
          (asks_after (shard_meaning g.R.Shows.is_steady) n (g.P.Parts.part_of c.args.parts.now) (g.P.Parts.part_of c.freed.parts) holder c.args.call.now seen operation inv.became asks);
      fits = c.in-Ok.ensures.ready.fits;
      room = rw (g.met.P.Parts.same_stripes c.args.parts.now c.freed.parts c.freed.invariant.keeps) at c.in-Ok.ensures.ready.room;
    }

pub returns-in-Ok-clause-marks : goal.returns-in-Ok-clause-marks
returns-in-Ok-clause-marks g c =
    let m = shard_meaning g.R.Shows.is_steady in
    let n : ℕ = g.P.Parts.stripes_of c.args.parts.now in
    let holder : ℕ = g.P.Parts.holder_of c.args.parts.now in
    let start = g.P.Parts.part_of c.args.parts.now in
    let now = g.P.Parts.part_of c.freed.parts in
    let later = g.P.Parts.part_of c.plan_staged.new.parts in
    record {
      became = begins_after m n holder (keys_begun c.args.call.now) start now later c.freed.invariant.became (rw (g.met.P.Parts.same_stripes c.args.parts.now c.freed.parts c.freed.invariant.keeps, g.met.P.Parts.same_holder c.args.parts.now c.freed.parts c.freed.invariant.keeps) at c.in-Ok.ensures.marks.became);
      begun = begun_after m n holder c.in-Ok.planned.begun start now later c.freed.invariant.became (rw (g.met.P.Parts.same_stripes c.args.parts.now c.freed.parts c.freed.invariant.keeps, g.met.P.Parts.same_holder c.args.parts.now c.freed.parts c.freed.invariant.keeps) at c.in-Ok.ensures.marks.begun);
    }

pub returns-in-Ok-clause-failed : goal.returns-in-Ok-clause-failed
returns-in-Ok-clause-failed g c = c.in-Ok.ensures.failed ∙ c.freed.invariant.same

pub returns-in-Ok-clause-held : goal.returns-in-Ok-clause-held
returns-in-Ok-clause-held g c = record {
  open_still = c.plan_staged.ensures.held.open_still;
  kept = g.met.P.Parts.keeps_both c.args.parts.now c.freed.parts c.plan_staged.new.parts c.freed.invariant.keeps c.plan_staged.ensures.held.kept;
}

pub returns-then-not-freed-clause-works : goal.returns-then-not-freed-clause-works
returns-then-not-freed-clause-works g c = record {
  retires = record {
    is = c.free_at-freed.ensures.is;
    heard = heard_more c.free_at-freed.result.refused.retire (g.S.Retires.knows c.args.hands.now.own) (g.S.Retires.knows c.freed.hands.own) (g.S.Retires.knows c.free_at-freed.new.own) c.freed.invariant.heard c.free_at-freed.ensures.told;
  };
  right = λ steady right. c.plan_staged.ensures.right steady (c.freed.invariant.right steady right);
}

pub returns-then-not-freed-clause-marks : goal.returns-then-not-freed-clause-marks
returns-then-not-freed-clause-marks g c =
    let m = shard_meaning g.R.Shows.is_steady in
    let n : ℕ = g.P.Parts.stripes_of c.args.parts.now in
    let start = g.P.Parts.part_of c.args.parts.now in
    let mid = g.P.Parts.part_of c.plan_staged.new.parts in
    became_twice m n start mid (g.P.Parts.part_of c.free_at-freed.new.parts)
    (became_twice m n start (g.P.Parts.part_of c.freed.parts) mid c.freed.invariant.became (rw (g.met.P.Parts.same_stripes c.args.parts.now c.freed.parts c.freed.invariant.keeps) at c.in-Err-StoreFull.ensures.marks)) (rw (g.met.P.Parts.same_stripes c.args.parts.now c.plan_staged.new.parts (g.met.P.Parts.keeps_both c.args.parts.now c.freed.parts c.plan_staged.new.parts c.freed.invariant.keeps c.plan_staged.ensures.held.kept)) at c.free_at-freed.ensures.became)

pub returns-then-not-freed-clause-full : goal.returns-then-not-freed-clause-full
returns-then-not-freed-clause-full g c =
    let inv = c.freed.invariant in
    let n : ℕ = g.P.Parts.stripes_of c.args.parts.now in
    let holder : ℕ = g.P.Parts.holder_of c.args.parts.now in
    let start = g.P.Parts.part_of c.args.parts.now in
    let mid = g.P.Parts.part_of c.plan_staged.new.parts in
    let last = g.P.Parts.part_of c.free_at-freed.new.parts in
    let stop = rw (c.in-Err-StoreFull.field-0-is, g.met.P.Parts.same_stripes c.args.parts.now c.freed.parts c.freed.invariant.keeps, g.met.P.Parts.same_holder c.args.parts.now c.freed.parts c.freed.invariant.keeps) at c.in-Err-StoreFull.ensures.stopped in
    record {
      stuck = record {
        full = full_still mid last c.in-Err-StoreFull.stripe c.free_at-freed.result (not-true c.free_at-freed.result.released c.if-not-freed.true) c.free_at-freed.ensures.freed stop.full;
        spent = spent_at start mid last c.in-Err-StoreFull.stripe c.free_at-freed.result (lasts_still start (g.P.Parts.part_of c.freed.parts) mid inv.lasts c.plan_staged.ensures.waits) c.free_at-freed.ensures.freed;
        worn = λ worn. heard_worn c.free_at-freed.result.refused.retire (g.S.Retires.knows c.args.hands.now.own) (g.S.Retires.knows c.freed.hands.own) (g.S.Retires.knows c.free_at-freed.new.own) inv.heard c.free_at-freed.ensures.told worn;
      };
      written = λ right seen operation asks. stop.written (right.0, inv.right right.0 right.1) seen operation
          (asks_after (shard_meaning g.R.Shows.is_steady) n start (g.P.Parts.part_of c.freed.parts) holder c.args.call.now seen operation inv.became asks);
    }

pub returns-then-not-freed-clause-failed : goal.returns-then-not-freed-clause-failed
returns-then-not-freed-clause-failed g c =
    let faulty = rw c.in-Err-StoreFull.field-0-is at c.in-Err-StoreFull.ensures.failed in
    omega (arith, c.free_at-freed.ensures.no_fault, faulty, c.freed.invariant.same)

pub returns-then-not-freed-clause-held : goal.returns-then-not-freed-clause-held
returns-then-not-freed-clause-held g c = record {
  open_still = c.free_at-freed.ensures.held.open_still;
  kept = g.met.P.Parts.keeps_both c.args.parts.now c.plan_staged.new.parts c.free_at-freed.new.parts
      (g.met.P.Parts.keeps_both c.args.parts.now c.freed.parts c.plan_staged.new.parts c.freed.invariant.keeps c.plan_staged.ensures.held.kept) c.free_at-freed.ensures.held.kept;
}

pub returns-in-Err-clause-works : goal.returns-in-Err-clause-works
returns-in-Err-clause-works g c = record {
  retires = record { is = c.freed.invariant.is; heard = c.freed.invariant.heard };
  right = λ steady right. c.plan_staged.ensures.right steady (c.freed.invariant.right steady right);
}

pub returns-in-Err-clause-marks : goal.returns-in-Err-clause-marks
returns-in-Err-clause-marks g c =
    became_twice (shard_meaning g.R.Shows.is_steady) (g.P.Parts.stripes_of c.args.parts.now) (g.P.Parts.part_of c.args.parts.now) (g.P.Parts.part_of c.freed.parts) (g.P.Parts.part_of c.plan_staged.new.parts)
    c.freed.invariant.became (rw (g.met.P.Parts.same_stripes c.args.parts.now c.freed.parts c.freed.invariant.keeps) at c.in-Err.ensures.marks)

pub returns-in-Err-clause-halted : goal.returns-in-Err-clause-halted
returns-in-Err-clause-halted g c =
    let inv = c.freed.invariant in
    let m = shard_meaning g.R.Shows.is_steady in
    let n : ℕ = g.P.Parts.stripes_of c.args.parts.now in
    let start = g.P.Parts.part_of c.args.parts.now in
    let now = g.P.Parts.part_of c.freed.parts in
    let stopped = rw (g.met.P.Parts.same_stripes c.args.parts.now c.freed.parts c.freed.invariant.keeps, g.met.P.Parts.same_holder c.args.parts.now c.freed.parts c.freed.invariant.keeps) at c.in-Err.ensures.stopped in
    stop_then c.in-Err.stop _ _ _ _ _ _ _ _ (λ receipts cold. (cold.unread, cold.unlent))
    (λ takes (right : g.R.Shows.is_steady × AreRight c.args.hands.now.staged) lends needs. takes (right.0, inv.right right.0 right.1) lends
    (needs_same (joined m n start) (joined m n now) c.args.call.now (λ key. joined_same m n start now key inv.became) needs))
    (λ fault. tt) (λ stripe full. tt) stopped

pub returns-in-Err-clause-failed : goal.returns-in-Err-clause-failed
returns-in-Err-clause-failed g c = c.in-Err.ensures.failed ∙ ap (λ (k : ℕ). k + faults c.in-Err.stop) c.freed.invariant.same

pub returns-in-Err-clause-held : goal.returns-in-Err-clause-held
returns-in-Err-clause-held g c = record {
  open_still = c.plan_staged.ensures.held.open_still;
  kept = g.met.P.Parts.keeps_both c.args.parts.now c.freed.parts c.plan_staged.new.parts c.freed.invariant.keeps c.plan_staged.ensures.held.kept;
}

pub returns-in-Ok-clause-left : goal.returns-in-Ok-clause-left
returns-in-Ok-clause-left g c = λ i some.
    let left = rw (g.met.P.Parts.same_stripes c.args.parts.now c.freed.parts c.freed.invariant.keeps) at c.in-Ok.ensures.left in
    left_since (logs_of (g.P.Parts.part_of c.args.parts.now)) (logs_of (g.P.Parts.part_of c.freed.parts)) (logs_of (g.P.Parts.part_of c.plan_staged.new.parts)) i _ _ c.freed.invariant.rooms c.plan_staged.ensures.rooms (left i some)

pub returns-in-Err-clause-lacks : goal.returns-in-Err-clause-lacks
returns-in-Err-clause-lacks g c =
    let inv = c.freed.invariant in
    let m = shard_meaning g.R.Shows.is_steady in
    let n : ℕ = g.P.Parts.stripes_of c.args.parts.now in
    let holder : ℕ = g.P.Parts.holder_of c.args.parts.now in
    let start = g.P.Parts.part_of c.args.parts.now in
    let now = g.P.Parts.part_of c.freed.parts in
    let later = g.P.Parts.part_of c.plan_staged.new.parts in
    let first = AreMade (g.R.Shows.is_steady × AreRight c.args.hands.now.staged) (of_call m n start holder c.args.call.now) in
    let last = AreMade (g.R.Shows.is_steady × AreRight c.freed.hands.staged) (of_call m n now holder c.args.call.now) in
    let turn : (ws : List Write) → weight ws ≤ WEIGHT_MAX → last ws → first ws = λ ws light made right seen operation asks. made (right.0, inv.right right.0 right.1) seen operation (asks_after m n start now holder c.args.call.now seen operation inv.became asks) in
    let lacks = rw (g.met.P.Parts.same_stripes c.args.parts.now c.freed.parts c.freed.invariant.keeps, g.met.P.Parts.same_holder c.args.parts.now c.freed.parts c.freed.invariant.keeps) at c.in-Err.ensures.lacks in
    stop_then c.in-Err.stop _ _ _ _ _ _ _ _ (λ receipts cold. tt) (λ memory. tt)
    (λ lacking stops. let met = lacking stops in (met.0, share_since n met.0 first (logs_of start) (logs_of now) (logs_of later) inv.rooms c.plan_staged.ensures.rooms (lacking_at n met.0 last first (logs_of now) (logs_of later) turn met.1)))
    (λ stripe met. share_since n stripe first (logs_of start) (logs_of now) (logs_of later) inv.rooms c.plan_staged.ensures.rooms (lacking_at n stripe last first (logs_of now) (logs_of later) turn met)) lacks

pub returns-then-not-freed-clause-lacks : goal.returns-then-not-freed-clause-lacks
returns-then-not-freed-clause-lacks g c =
    let inv = c.freed.invariant in
    let m = shard_meaning g.R.Shows.is_steady in
    let n : ℕ = g.P.Parts.stripes_of c.args.parts.now in
    let holder : ℕ = g.P.Parts.holder_of c.args.parts.now in
    let start = g.P.Parts.part_of c.args.parts.now in
    let now = g.P.Parts.part_of c.freed.parts in
    let mid = g.P.Parts.part_of c.plan_staged.new.parts in
    let last = g.P.Parts.part_of c.free_at-freed.new.parts in
    let stripe : ℕ = c.in-Err-StoreFull.stripe in
    let was = AreMade (g.R.Shows.is_steady × AreRight c.args.hands.now.staged) (of_call m n start holder c.args.call.now) in
    let is = AreMade (g.R.Shows.is_steady × AreRight c.freed.hands.staged) (of_call m n now holder c.args.call.now) in
    let turn : (ws : List Write) → weight ws ≤ WEIGHT_MAX → is ws → was ws = λ ws light made right seen operation asks. made (right.0, inv.right right.0 right.1) seen operation (asks_after m n start now holder c.args.call.now seen operation inv.became asks) in
    let lacks = rw (c.in-Err-StoreFull.field-0-is, g.met.P.Parts.same_stripes c.args.parts.now c.freed.parts c.freed.invariant.keeps, g.met.P.Parts.same_holder c.args.parts.now c.freed.parts c.freed.invariant.keeps) at c.in-Err-StoreFull.ensures.lacks in
    share_until n stripe was (logs_of start) (logs_of mid) (logs_of last)
    (logs_still mid last stripe c.free_at-freed.result (not-true c.free_at-freed.result.released c.if-not-freed.true) c.free_at-freed.ensures.freed stripe)
    (share_since n stripe was (logs_of start) (logs_of now) (logs_of mid) inv.rooms c.plan_staged.ensures.rooms (lacking_at n stripe is was (logs_of now) (logs_of mid) turn lacks))

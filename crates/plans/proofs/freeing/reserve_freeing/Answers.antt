use Rattle.std.proofs.Common.{◌∙◌, ◌+◌, ◌∷◌, [], ℕ, refl, ap, arith}
use Rattle.std.proofs.lemmas.Bool.{not-false, not-true}
use Rattle.shards.specs.Shards.{logs_of, shard_meaning}
use Rattle.plans.specs.Stops.{faults}
use Rattle.plans.proofs.Become.{became_same, became_twice, there_after}
use Rattle.plans.proofs.Freed.{below_all, full_still, full_there, heard_more, heard_none, heard_worn, lasts_freed, lasts_none, lasts_still, logs_still, spent_at, waits_fewer}
use Rattle.plans.proofs.Questions.{stop_then}
use Rattle.plans.proofs.Spared.{lacks_since, lacks_until, left_since, spare_both, spare_freed, spare_same}
use Rattle.plans.proofs.freeing.reserve_freeing.Goals as goal

pub freed-init : goal.freed-init
freed-init g c =
    let parts = g.P.Parts.part_of c.args.parts.now in
    record {
      is_open = c.requires.may.may.can_lend;
      keeps = g.met.P.Parts.keeps_same c.args.parts.now;
      is = c.requires.is;
      became = became_same (shard_meaning g.R.Shows.is_steady) (g.P.Parts.stripes_of c.args.parts.now) parts parts refl;
      rooms = spare_same (logs_of parts) (logs_of parts) (λ i. refl);
      lasts = lasts_none parts;
      heard = heard_none (g.S.Retires.knows c.args.own.now);
      same = refl;
    }

pub reserve_put-requires : goal.reserve_put-requires
reserve_put-requires g c = record {
  may = record {
    may = record {
      can_lend = c.freed.invariant.is_open;
      there = rw (g.met.P.Parts.same_stripes c.args.parts.now c.freed.parts c.freed.invariant.keeps) (there_after (shard_meaning g.R.Shows.is_steady) (g.P.Parts.stripes_of c.args.parts.now) (c.args.key.now ∷ []) (g.P.Parts.part_of c.args.parts.now) (g.P.Parts.part_of c.freed.parts) c.freed.invariant.became.there c.requires.may.may.there);
    };
    light = c.requires.may.light;
  };
}

pub free_at-freed-requires-clause-there : goal.free_at-freed-requires-clause-there
free_at-freed-requires-clause-there g c =
    full_there (g.P.Parts.part_of c.reserve_put.new.parts) c.in-Err-StoreFull.stripe (rw (c.in-Err-StoreFull.field-0-is, g.met.P.Parts.same_stripes c.args.parts.now c.freed.parts c.freed.invariant.keeps) at c.in-Err-StoreFull.ensures.stopped.why).2

pub freed-preserved : goal.freed-preserved
freed-preserved g c =
    let m = shard_meaning g.R.Shows.is_steady in
    let n : ℕ = (g.P.Parts.stripes_of c.args.parts.now) in
    let inv = c.freed.invariant in
    let start = g.P.Parts.part_of c.args.parts.now in
    let now = g.P.Parts.part_of c.freed.parts in
    let mid = g.P.Parts.part_of c.reserve_put.new.parts in
    let last = g.P.Parts.part_of c.free_at-freed.new.parts in
    let faulty = rw c.in-Err-StoreFull.field-0-is at c.in-Err-StoreFull.ensures.failed in
    record {
      is_open = c.free_at-freed.ensures.held.open_still;
      keeps = g.met.P.Parts.keeps_both c.args.parts.now c.reserve_put.new.parts c.free_at-freed.new.parts
          (g.met.P.Parts.keeps_both c.args.parts.now c.freed.parts c.reserve_put.new.parts inv.keeps c.reserve_put.ensures.held.kept) c.free_at-freed.ensures.held.kept;
      is = c.free_at-freed.ensures.is;
      became = became_twice m n start mid last (became_twice m n start now mid inv.became (rw (g.met.P.Parts.same_stripes c.args.parts.now c.freed.parts c.freed.invariant.keeps) at c.reserve_put.ensures.reserved.became)) (rw (g.met.P.Parts.same_stripes c.args.parts.now c.reserve_put.new.parts (g.met.P.Parts.keeps_both c.args.parts.now c.freed.parts c.reserve_put.new.parts c.freed.invariant.keeps c.reserve_put.ensures.held.kept)) at c.free_at-freed.ensures.became);
      rooms = spare_both (logs_of start) (logs_of mid) (logs_of last) (spare_both (logs_of start) (logs_of now) (logs_of mid) inv.rooms c.reserve_put.ensures.reserved.stands.rooms)
          (spare_freed mid last c.in-Err-StoreFull.stripe c.free_at-freed.result c.free_at-freed.ensures.freed);
      lasts = lasts_freed start mid last c.in-Err-StoreFull.stripe c.free_at-freed.result (lasts_still start now mid inv.lasts c.reserve_put.ensures.reserved.stands.waits) c.free_at-freed.ensures.freed;
      heard = heard_more c.free_at-freed.result.refused.retire (g.S.Retires.knows c.args.own.now) (g.S.Retires.knows c.freed.own) (g.S.Retires.knows c.free_at-freed.new.own) inv.heard c.free_at-freed.ensures.told;
      same = omega (arith, c.free_at-freed.ensures.no_fault, faulty, inv.same);
    }

pub freed-smaller : goal.freed-smaller
freed-smaller g c =
    waits_fewer (g.P.Parts.stripes_of c.args.parts.now) c.in-Err-StoreFull.stripe (g.P.Parts.part_of c.freed.parts) (g.P.Parts.part_of c.reserve_put.new.parts) (g.P.Parts.part_of c.free_at-freed.new.parts) c.free_at-freed.result
    (below_all (g.P.Parts.stripes_of c.args.parts.now) c.in-Err-StoreFull.stripe c.args.key.now (g.met.P.Parts.are_few c.args.parts.now c.requires.may.may.can_lend).0 (rw (c.in-Err-StoreFull.field-0-is, g.met.P.Parts.same_stripes c.args.parts.now c.freed.parts c.freed.invariant.keeps) at c.in-Err-StoreFull.ensures.stopped.why).0) (not-false c.free_at-freed.result.released c.if-not-freed.false) c.reserve_put.ensures.reserved.stands.waits c.free_at-freed.ensures.freed

pub returns-in-Ok-clause-retires : goal.returns-in-Ok-clause-retires
returns-in-Ok-clause-retires g c = record { is = c.freed.invariant.is; heard = c.freed.invariant.heard }

pub returns-in-Ok-clause-became : goal.returns-in-Ok-clause-became
returns-in-Ok-clause-became g c =
    became_twice (shard_meaning g.R.Shows.is_steady) (g.P.Parts.stripes_of c.args.parts.now) (g.P.Parts.part_of c.args.parts.now) (g.P.Parts.part_of c.freed.parts) (g.P.Parts.part_of c.reserve_put.new.parts) c.freed.invariant.became (rw (g.met.P.Parts.same_stripes c.args.parts.now c.freed.parts c.freed.invariant.keeps) at c.reserve_put.ensures.reserved.became)

pub returns-in-Ok-clause-room : goal.returns-in-Ok-clause-room
returns-in-Ok-clause-room g c = rw (g.met.P.Parts.same_stripes c.args.parts.now c.freed.parts c.freed.invariant.keeps) at c.in-Ok.ensures.room.room

pub returns-in-Ok-clause-failed : goal.returns-in-Ok-clause-failed
returns-in-Ok-clause-failed g c = c.in-Ok.ensures.failed ∙ c.freed.invariant.same

pub returns-in-Ok-clause-held : goal.returns-in-Ok-clause-held
returns-in-Ok-clause-held g c = record {
  open_still = c.reserve_put.ensures.held.open_still;
  kept = g.met.P.Parts.keeps_both c.args.parts.now c.freed.parts c.reserve_put.new.parts c.freed.invariant.keeps c.reserve_put.ensures.held.kept;
}

pub returns-then-not-freed-clause-retires : goal.returns-then-not-freed-clause-retires
returns-then-not-freed-clause-retires g c = record {
  is = c.free_at-freed.ensures.is;
  heard = heard_more c.free_at-freed.result.refused.retire (g.S.Retires.knows c.args.own.now) (g.S.Retires.knows c.freed.own) (g.S.Retires.knows c.free_at-freed.new.own) c.freed.invariant.heard c.free_at-freed.ensures.told;
}

pub returns-then-not-freed-clause-became : goal.returns-then-not-freed-clause-became
returns-then-not-freed-clause-became g c =
    let m = shard_meaning g.R.Shows.is_steady in
    let n : ℕ = (g.P.Parts.stripes_of c.args.parts.now) in
    let start = g.P.Parts.part_of c.args.parts.now in
    let mid = g.P.Parts.part_of c.reserve_put.new.parts in
    became_twice m n start mid (g.P.Parts.part_of c.free_at-freed.new.parts) (became_twice m n start (g.P.Parts.part_of c.freed.parts) mid c.freed.invariant.became (rw (g.met.P.Parts.same_stripes c.args.parts.now c.freed.parts c.freed.invariant.keeps) at c.reserve_put.ensures.reserved.became)) (rw (g.met.P.Parts.same_stripes c.args.parts.now c.reserve_put.new.parts (g.met.P.Parts.keeps_both c.args.parts.now c.freed.parts c.reserve_put.new.parts c.freed.invariant.keeps c.reserve_put.ensures.held.kept)) at c.free_at-freed.ensures.became)

pub returns-then-not-freed-clause-halted : goal.returns-then-not-freed-clause-halted
returns-then-not-freed-clause-halted g c = (rw (c.in-Err-StoreFull.field-0-is, g.met.P.Parts.same_stripes c.args.parts.now c.freed.parts c.freed.invariant.keeps) at c.in-Err-StoreFull.ensures.stopped.why).0

pub returns-then-not-freed-clause-full : goal.returns-then-not-freed-clause-full
returns-then-not-freed-clause-full g c =
    let start = g.P.Parts.part_of c.args.parts.now in
    let mid = g.P.Parts.part_of c.reserve_put.new.parts in
    let last = g.P.Parts.part_of c.free_at-freed.new.parts in
    record {
      full = full_still mid last c.in-Err-StoreFull.stripe c.free_at-freed.result (not-true c.free_at-freed.result.released c.if-not-freed.true) c.free_at-freed.ensures.freed (rw (c.in-Err-StoreFull.field-0-is, g.met.P.Parts.same_stripes c.args.parts.now c.freed.parts c.freed.invariant.keeps) at c.in-Err-StoreFull.ensures.stopped.why).2;
      spent = spent_at start mid last c.in-Err-StoreFull.stripe c.free_at-freed.result (lasts_still start (g.P.Parts.part_of c.freed.parts) mid c.freed.invariant.lasts c.reserve_put.ensures.reserved.stands.waits) c.free_at-freed.ensures.freed;
      worn = λ worn. heard_worn c.free_at-freed.result.refused.retire (g.S.Retires.knows c.args.own.now) (g.S.Retires.knows c.freed.own) (g.S.Retires.knows c.free_at-freed.new.own) c.freed.invariant.heard c.free_at-freed.ensures.told worn;
    }

pub returns-then-not-freed-clause-failed : goal.returns-then-not-freed-clause-failed
returns-then-not-freed-clause-failed g c =
    let faulty = rw c.in-Err-StoreFull.field-0-is at c.in-Err-StoreFull.ensures.failed in
    omega (arith, c.free_at-freed.ensures.no_fault, faulty, c.freed.invariant.same)

pub returns-then-not-freed-clause-held : goal.returns-then-not-freed-clause-held
returns-then-not-freed-clause-held g c = record {
  open_still = c.free_at-freed.ensures.held.open_still;
  kept = g.met.P.Parts.keeps_both c.args.parts.now c.reserve_put.new.parts c.free_at-freed.new.parts
      (g.met.P.Parts.keeps_both c.args.parts.now c.freed.parts c.reserve_put.new.parts c.freed.invariant.keeps c.reserve_put.ensures.held.kept) c.free_at-freed.ensures.held.kept;
}

pub returns-in-Err-clause-retires : goal.returns-in-Err-clause-retires
returns-in-Err-clause-retires g c = record { is = c.freed.invariant.is; heard = c.freed.invariant.heard }

pub returns-in-Err-clause-became : goal.returns-in-Err-clause-became
returns-in-Err-clause-became g c =
    became_twice (shard_meaning g.R.Shows.is_steady) (g.P.Parts.stripes_of c.args.parts.now) (g.P.Parts.part_of c.args.parts.now) (g.P.Parts.part_of c.freed.parts) (g.P.Parts.part_of c.reserve_put.new.parts) c.freed.invariant.became (rw (g.met.P.Parts.same_stripes c.args.parts.now c.freed.parts c.freed.invariant.keeps) at c.reserve_put.ensures.reserved.became)

pub returns-in-Err-clause-halted : goal.returns-in-Err-clause-halted
returns-in-Err-clause-halted g c =
    let why = rw (g.met.P.Parts.same_stripes c.args.parts.now c.freed.parts c.freed.invariant.keeps) at c.in-Err.ensures.stopped.why in
    stop_then c.in-Err.stop _ _ _ _ _ _ _ _ (λ receipts never. never) (λ never. never) (λ fault. tt) (λ stripe full. full.0) why

pub returns-in-Err-clause-failed : goal.returns-in-Err-clause-failed
returns-in-Err-clause-failed g c = c.in-Err.ensures.failed ∙ ap (λ (k : ℕ). k + faults c.in-Err.stop) c.freed.invariant.same

pub returns-in-Err-clause-held : goal.returns-in-Err-clause-held
returns-in-Err-clause-held g c = record {
  open_still = c.reserve_put.ensures.held.open_still;
  kept = g.met.P.Parts.keeps_both c.args.parts.now c.freed.parts c.reserve_put.new.parts c.freed.invariant.keeps c.reserve_put.ensures.held.kept;
}

pub returns-in-Ok-clause-left : goal.returns-in-Ok-clause-left
returns-in-Ok-clause-left g c =
    let room = rw (g.met.P.Parts.same_stripes c.args.parts.now c.freed.parts c.freed.invariant.keeps) at c.in-Ok.ensures.room in
    left_since (logs_of (g.P.Parts.part_of c.args.parts.now)) (logs_of (g.P.Parts.part_of c.freed.parts)) (logs_of (g.P.Parts.part_of c.reserve_put.new.parts)) _ _ _ c.freed.invariant.rooms c.reserve_put.ensures.reserved.stands.rooms room.left

pub returns-in-Err-clause-lacks : goal.returns-in-Err-clause-lacks
returns-in-Err-clause-lacks g c =
    let stopped = rw (g.met.P.Parts.same_stripes c.args.parts.now c.freed.parts c.freed.invariant.keeps) at c.in-Err.ensures.stopped in
    lacks_since (logs_of (g.P.Parts.part_of c.args.parts.now)) (logs_of (g.P.Parts.part_of c.freed.parts)) (logs_of (g.P.Parts.part_of c.reserve_put.new.parts)) _ _ _ c.freed.invariant.rooms c.reserve_put.ensures.reserved.stands.rooms stopped.lacks

pub returns-then-not-freed-clause-lacks : goal.returns-then-not-freed-clause-lacks
returns-then-not-freed-clause-lacks g c =
    let start = logs_of (g.P.Parts.part_of c.args.parts.now) in
    let mid = g.P.Parts.part_of c.reserve_put.new.parts in
    let last = g.P.Parts.part_of c.free_at-freed.new.parts in
    let stopped = rw (g.met.P.Parts.same_stripes c.args.parts.now c.freed.parts c.freed.invariant.keeps) at c.in-Err-StoreFull.ensures.stopped in
    lacks_until start (logs_of mid) (logs_of last) _ _ _ (logs_still mid last c.in-Err-StoreFull.stripe c.free_at-freed.result (not-true c.free_at-freed.result.released c.if-not-freed.true) c.free_at-freed.ensures.freed _)
    (lacks_since start (logs_of (g.P.Parts.part_of c.freed.parts)) (logs_of mid) _ _ _ c.freed.invariant.rooms c.reserve_put.ensures.reserved.stands.rooms stopped.lacks)

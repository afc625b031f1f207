use Rattle.std.proofs.Common.{◌≡◌, ◌∙◌, ◌+◌, ◌<◌, List, ℕ, refl, subst, ap, arith}
use Rattle.std.proofs.lemmas.Bool.{not-false, not-true}
use Rattle.words.specs.Answers.{writes_set}
use Rattle.words.specs.Briefs.{pairs_of}
use Rattle.words.specs.Commands.{keys_set}
use Rattle.words.specs.Store.{Write}
use Rattle.shards.specs.Receipts.{kept_by}
use Rattle.shards.specs.Rooms.{share}
use Rattle.shards.specs.Shards.{logs_of, shard_meaning}
use Rattle.plans.specs.Stops.{faults}
use Rattle.plans.proofs.Become.{became_same, became_twice, there_after}
use Rattle.plans.proofs.Freed.{full_still, full_there, heard_more, heard_none, heard_worn, lasts_freed, lasts_none, lasts_still, logs_still, spent_at, waits_fewer}
use Rattle.plans.proofs.Questions.{stop_then}
use Rattle.plans.proofs.Making.{lacking_full}
use Rattle.plans.proofs.Spared.{left_since, share_since, share_until, spare_both, spare_freed, spare_same}
use Rattle.plans.proofs.freeing.settings_freeing.Goals as goal

pub freed-init : goal.freed-init
freed-init g c =
    let parts = g.P.Parts.part_of c.args.parts.now in
    record {
      is_open = c.requires.may.can_lend;
      keeps = g.met.P.Parts.keeps_same c.args.parts.now;
      is = c.requires.is;
      became = became_same (shard_meaning g.R.Shows.is_steady) (g.P.Parts.stripes_of c.args.parts.now) parts parts refl;
      rooms = spare_same (logs_of parts) (logs_of parts) (λ i. refl);
      lasts = lasts_none parts;
      heard = heard_none (g.S.Retires.knows c.args.own.now);
      same = refl;
    }

pub reserve_settings-requires-clause-may : goal.reserve_settings-requires-clause-may
reserve_settings-requires-clause-may g c = record {
  can_lend = c.freed.invariant.is_open;
  there = rw (g.met.P.Parts.same_stripes c.args.parts.now c.freed.parts c.freed.invariant.keeps) (there_after (shard_meaning g.R.Shows.is_steady) (g.P.Parts.stripes_of c.args.parts.now) (keys_set (pairs_of c.args.words.now)) (g.P.Parts.part_of c.args.parts.now) (g.P.Parts.part_of c.freed.parts) c.freed.invariant.became.there c.requires.may.there);
}

pub free_at-freed-requires-clause-there : goal.free_at-freed-requires-clause-there
free_at-freed-requires-clause-there g c =
    full_there (g.P.Parts.part_of c.reserve_settings.new.parts) c.in-Err-StoreFull.stripe (rw (c.in-Err-StoreFull.field-0-is, g.met.P.Parts.same_stripes c.args.parts.now c.freed.parts c.freed.invariant.keeps) at c.in-Err-StoreFull.ensures.stopped).full

pub freed-preserved : goal.freed-preserved
freed-preserved g c =
    let m = shard_meaning g.R.Shows.is_steady in
    let n : ℕ = (g.P.Parts.stripes_of c.args.parts.now) in
    let inv = c.freed.invariant in
    let start = g.P.Parts.part_of c.args.parts.now in
    let now = g.P.Parts.part_of c.freed.parts in
    let mid = g.P.Parts.part_of c.reserve_settings.new.parts in
    let last = g.P.Parts.part_of c.free_at-freed.new.parts in
    let faulty = rw c.in-Err-StoreFull.field-0-is at c.in-Err-StoreFull.ensures.failed in
    record {
      is_open = c.free_at-freed.ensures.held.open_still;
      keeps = g.met.P.Parts.keeps_both c.args.parts.now c.reserve_settings.new.parts c.free_at-freed.new.parts
          (g.met.P.Parts.keeps_both c.args.parts.now c.freed.parts c.reserve_settings.new.parts inv.keeps c.reserve_settings.ensures.held.kept) c.free_at-freed.ensures.held.kept;
      is = c.free_at-freed.ensures.is;
      became = became_twice m n start mid last (became_twice m n start now mid inv.became (rw (g.met.P.Parts.same_stripes c.args.parts.now c.freed.parts c.freed.invariant.keeps) at c.reserve_settings.ensures.became)) (rw (g.met.P.Parts.same_stripes c.args.parts.now c.reserve_settings.new.parts (g.met.P.Parts.keeps_both c.args.parts.now c.freed.parts c.reserve_settings.new.parts c.freed.invariant.keeps c.reserve_settings.ensures.held.kept)) at c.free_at-freed.ensures.became);
      rooms = spare_both (logs_of start) (logs_of mid) (logs_of last) (spare_both (logs_of start) (logs_of now) (logs_of mid) inv.rooms c.reserve_settings.ensures.stands.rooms)
          (spare_freed mid last c.in-Err-StoreFull.stripe c.free_at-freed.result c.free_at-freed.ensures.freed);
      lasts = lasts_freed start mid last c.in-Err-StoreFull.stripe c.free_at-freed.result (lasts_still start now mid inv.lasts c.reserve_settings.ensures.stands.waits) c.free_at-freed.ensures.freed;
      heard = heard_more c.free_at-freed.result.refused.retire (g.S.Retires.knows c.args.own.now) (g.S.Retires.knows c.freed.own) (g.S.Retires.knows c.free_at-freed.new.own) inv.heard c.free_at-freed.ensures.told;
      same = omega (arith, c.free_at-freed.ensures.no_fault, faulty, inv.same);
    }

pub freed-smaller : goal.freed-smaller
freed-smaller g c =
    waits_fewer (g.P.Parts.stripes_of c.args.parts.now) c.in-Err-StoreFull.stripe (g.P.Parts.part_of c.freed.parts) (g.P.Parts.part_of c.reserve_settings.new.parts) (g.P.Parts.part_of c.free_at-freed.new.parts) c.free_at-freed.result
    (rw (c.in-Err-StoreFull.field-0-is, g.met.P.Parts.same_stripes c.args.parts.now c.freed.parts c.freed.invariant.keeps) at c.in-Err-StoreFull.ensures.stopped).below (not-false c.free_at-freed.result.released c.if-not-freed.false) c.reserve_settings.ensures.stands.waits c.free_at-freed.ensures.freed

pub returns-in-Ok-clause-retires : goal.returns-in-Ok-clause-retires
returns-in-Ok-clause-retires g c = record { is = c.freed.invariant.is; heard = c.freed.invariant.heard }

pub returns-in-Ok-clause-became : goal.returns-in-Ok-clause-became
returns-in-Ok-clause-became g c =
    became_twice (shard_meaning g.R.Shows.is_steady) (g.P.Parts.stripes_of c.args.parts.now) (g.P.Parts.part_of c.args.parts.now) (g.P.Parts.part_of c.freed.parts) (g.P.Parts.part_of c.reserve_settings.new.parts) c.freed.invariant.became (rw (g.met.P.Parts.same_stripes c.args.parts.now c.freed.parts c.freed.invariant.keeps) at c.reserve_settings.ensures.became)

pub returns-in-Ok-clause-room : goal.returns-in-Ok-clause-room
returns-in-Ok-clause-room g c = rw (g.met.P.Parts.same_stripes c.args.parts.now c.freed.parts c.freed.invariant.keeps) at c.in-Ok.ensures.room.room

pub returns-in-Ok-clause-failed : goal.returns-in-Ok-clause-failed
returns-in-Ok-clause-failed g c = c.in-Ok.ensures.failed ∙ c.freed.invariant.same

pub returns-in-Ok-clause-held : goal.returns-in-Ok-clause-held
returns-in-Ok-clause-held g c = record {
  open_still = c.reserve_settings.ensures.held.open_still;
  kept = g.met.P.Parts.keeps_both c.args.parts.now c.freed.parts c.reserve_settings.new.parts c.freed.invariant.keeps c.reserve_settings.ensures.held.kept;
}

pub returns-then-not-freed-clause-retires : goal.returns-then-not-freed-clause-retires
returns-then-not-freed-clause-retires g c = record {
  is = c.free_at-freed.ensures.is;
  heard = heard_more c.free_at-freed.result.refused.retire (g.S.Retires.knows c.args.own.now) (g.S.Retires.knows c.freed.own) (g.S.Retires.knows c.free_at-freed.new.own) c.freed.invariant.heard c.free_at-freed.ensures.told;
}

pub returns-then-not-freed-clause-became : goal.returns-then-not-freed-clause-became
returns-then-not-freed-clause-became g c =
    let m = shard_meaning g.R.Shows.is_steady in
    let n : ℕ = (g.P.Parts.stripes_of c.args.parts.now) in
    let start = g.P.Parts.part_of c.args.parts.now in
    let mid = g.P.Parts.part_of c.reserve_settings.new.parts in
    became_twice m n start mid (g.P.Parts.part_of c.free_at-freed.new.parts) (became_twice m n start (g.P.Parts.part_of c.freed.parts) mid c.freed.invariant.became (rw (g.met.P.Parts.same_stripes c.args.parts.now c.freed.parts c.freed.invariant.keeps) at c.reserve_settings.ensures.became)) (rw (g.met.P.Parts.same_stripes c.args.parts.now c.reserve_settings.new.parts (g.met.P.Parts.keeps_both c.args.parts.now c.freed.parts c.reserve_settings.new.parts c.freed.invariant.keeps c.reserve_settings.ensures.held.kept)) at c.free_at-freed.ensures.became)

pub returns-then-not-freed-clause-halted : goal.returns-then-not-freed-clause-halted
returns-then-not-freed-clause-halted g c =
    let stop = rw (c.in-Err-StoreFull.field-0-is, g.met.P.Parts.same_stripes c.args.parts.now c.freed.parts c.freed.invariant.keeps) at c.in-Err-StoreFull.ensures.stopped in
    subst (λ (ws : List Write). 0 < share (g.P.Parts.stripes_of c.args.parts.now) c.in-Err-StoreFull.stripe ws) stop.due stop.written

pub returns-then-not-freed-clause-full : goal.returns-then-not-freed-clause-full
returns-then-not-freed-clause-full g c =
    let start = g.P.Parts.part_of c.args.parts.now in
    let mid = g.P.Parts.part_of c.reserve_settings.new.parts in
    let last = g.P.Parts.part_of c.free_at-freed.new.parts in
    record {
      full = full_still mid last c.in-Err-StoreFull.stripe c.free_at-freed.result (not-true c.free_at-freed.result.released c.if-not-freed.true) c.free_at-freed.ensures.freed (rw (c.in-Err-StoreFull.field-0-is, g.met.P.Parts.same_stripes c.args.parts.now c.freed.parts c.freed.invariant.keeps) at c.in-Err-StoreFull.ensures.stopped).full;
      spent = spent_at start mid last c.in-Err-StoreFull.stripe c.free_at-freed.result (lasts_still start (g.P.Parts.part_of c.freed.parts) mid c.freed.invariant.lasts c.reserve_settings.ensures.stands.waits) c.free_at-freed.ensures.freed;
      worn = λ worn. heard_worn c.free_at-freed.result.refused.retire (g.S.Retires.knows c.args.own.now) (g.S.Retires.knows c.freed.own) (g.S.Retires.knows c.free_at-freed.new.own) c.freed.invariant.heard c.free_at-freed.ensures.told worn;
    }

pub returns-then-not-freed-clause-failed : goal.returns-then-not-freed-clause-failed
returns-then-not-freed-clause-failed g c =
    let faulty = rw c.in-Err-StoreFull.field-0-is at c.in-Err-StoreFull.ensures.failed in
    omega (arith, c.free_at-freed.ensures.no_fault, faulty, c.freed.invariant.same)

pub returns-then-not-freed-clause-held : goal.returns-then-not-freed-clause-held
returns-then-not-freed-clause-held g c = record {
  open_still = c.free_at-freed.ensures.held.open_still;
  kept = g.met.P.Parts.keeps_both c.args.parts.now c.reserve_settings.new.parts c.free_at-freed.new.parts
      (g.met.P.Parts.keeps_both c.args.parts.now c.freed.parts c.reserve_settings.new.parts c.freed.invariant.keeps c.reserve_settings.ensures.held.kept) c.free_at-freed.ensures.held.kept;
}

pub returns-in-Err-clause-retires : goal.returns-in-Err-clause-retires
returns-in-Err-clause-retires g c = record { is = c.freed.invariant.is; heard = c.freed.invariant.heard }

pub returns-in-Err-clause-became : goal.returns-in-Err-clause-became
returns-in-Err-clause-became g c =
    became_twice (shard_meaning g.R.Shows.is_steady) (g.P.Parts.stripes_of c.args.parts.now) (g.P.Parts.part_of c.args.parts.now) (g.P.Parts.part_of c.freed.parts) (g.P.Parts.part_of c.reserve_settings.new.parts) c.freed.invariant.became (rw (g.met.P.Parts.same_stripes c.args.parts.now c.freed.parts c.freed.invariant.keeps) at c.reserve_settings.ensures.became)

pub returns-in-Err-clause-halted : goal.returns-in-Err-clause-halted
returns-in-Err-clause-halted g c =
    let why = rw (g.met.P.Parts.same_stripes c.args.parts.now c.freed.parts c.freed.invariant.keeps) at c.in-Err.ensures.stopped in
    stop_then c.in-Err.stop _ _ _ _ _ _ _ _ (λ receipts never. never) (λ never. never) (λ fault. tt)
    (λ stripe full. subst (λ (ws : List Write). 0 < share (g.P.Parts.stripes_of c.args.parts.now) stripe ws) full.due full.written) why

pub returns-in-Err-clause-failed : goal.returns-in-Err-clause-failed
returns-in-Err-clause-failed g c = c.in-Err.ensures.failed ∙ ap (λ (k : ℕ). k + faults c.in-Err.stop) c.freed.invariant.same

pub returns-in-Err-clause-held : goal.returns-in-Err-clause-held
returns-in-Err-clause-held g c = record {
  open_still = c.reserve_settings.ensures.held.open_still;
  kept = g.met.P.Parts.keeps_both c.args.parts.now c.freed.parts c.reserve_settings.new.parts c.freed.invariant.keeps c.reserve_settings.ensures.held.kept;
}

pub returns-in-Ok-clause-left : goal.returns-in-Ok-clause-left
returns-in-Ok-clause-left g c = λ i some.
    let room = rw (g.met.P.Parts.same_stripes c.args.parts.now c.freed.parts c.freed.invariant.keeps) at c.in-Ok.ensures.room in
    left_since (logs_of (g.P.Parts.part_of c.args.parts.now)) (logs_of (g.P.Parts.part_of c.freed.parts)) (logs_of (g.P.Parts.part_of c.reserve_settings.new.parts)) i _ _ c.freed.invariant.rooms c.reserve_settings.ensures.stands.rooms (room.left i some)

pub returns-in-Err-clause-lacks : goal.returns-in-Err-clause-lacks
returns-in-Err-clause-lacks g c =
    let n : ℕ = g.P.Parts.stripes_of c.args.parts.now in
    let start = logs_of (g.P.Parts.part_of c.args.parts.now) in
    let now = logs_of (g.P.Parts.part_of c.freed.parts) in
    let later = logs_of (g.P.Parts.part_of c.reserve_settings.new.parts) in
    let due : List Write → Type 0 = λ ws. ws ≡ writes_set (pairs_of c.args.words.now) in
    let why = rw (g.met.P.Parts.same_stripes c.args.parts.now c.freed.parts c.freed.invariant.keeps) at c.in-Err.ensures.stopped in
    stop_then c.in-Err.stop _ _ _ _ _ _ _ _ (λ receipts never. never) (λ never. never)
    (λ lacking. (lacking.0, share_since n lacking.0 due start now later c.freed.invariant.rooms c.reserve_settings.ensures.stands.rooms lacking.1))
    (λ stripe full. share_since n stripe due start now later c.freed.invariant.rooms c.reserve_settings.ensures.stands.rooms
    (lacking_full g.D.Device.wrote (kept_by g.R.Shows.identity g.R.Shows.shown) n stripe due now later c.freed.device c.reserve_settings.new.device full)) why

pub returns-then-not-freed-clause-lacks : goal.returns-then-not-freed-clause-lacks
returns-then-not-freed-clause-lacks g c =
    let n : ℕ = g.P.Parts.stripes_of c.args.parts.now in
    let start = logs_of (g.P.Parts.part_of c.args.parts.now) in
    let now = logs_of (g.P.Parts.part_of c.freed.parts) in
    let mid = g.P.Parts.part_of c.reserve_settings.new.parts in
    let last = g.P.Parts.part_of c.free_at-freed.new.parts in
    let stripe : ℕ = c.in-Err-StoreFull.stripe in
    let due : List Write → Type 0 = λ ws. ws ≡ writes_set (pairs_of c.args.words.now) in
    let stop = rw (c.in-Err-StoreFull.field-0-is, g.met.P.Parts.same_stripes c.args.parts.now c.freed.parts c.freed.invariant.keeps) at c.in-Err-StoreFull.ensures.stopped in
    share_until n stripe due start (logs_of mid) (logs_of last) (logs_still mid last stripe c.free_at-freed.result (not-true c.free_at-freed.result.released c.if-not-freed.true) c.free_at-freed.ensures.freed stripe)
    (share_since n stripe due start now (logs_of mid) c.freed.invariant.rooms c.reserve_settings.ensures.stands.rooms
    (lacking_full g.D.Device.wrote (kept_by g.R.Shows.identity g.R.Shows.shown) n stripe due now (logs_of mid) c.freed.device c.reserve_settings.new.device stop))

use Rattle.std.proofs.Common.{◌≡◌, ◌∙◌, ◌<◌, ◌≤◌, ℕ, refl, ap, subst, arith, slice_index}
use Rattle.shards.specs.Receipts.{kept_by}
use Rattle.shards.specs.Shards.{logs_of, shard_meaning}
use Rattle.shards.specs.Rooms.{MakesRoom}
use Rattle.plans.proofs.Become.{became_same, became_twice}
use Rattle.plans.proofs.Few.{few_more, still_both, still_same}
use Rattle.plans.proofs.Making.{met_stop, room_at}
use Rattle.plans.proofs.Rooms.{share_below}
use Rattle.plans.proofs.Shares.{below_more, below_none}
use Rattle.plans.proofs.Spared.{spare_both, spare_same}
use Rattle.plans.proofs.Waits.{waits_both}
use Rattle.plans.proofs.room.reserve_shares.Goals as goal

pub loop-stripe-init : goal.loop-stripe-init
loop-stripe-init g c =
    let parts = g.P.Parts.part_of c.args.parts.now in
    record {
      is_open = c.requires.open;
      keeps = g.met.P.Parts.keeps_same c.args.parts.now;
      became = became_same (shard_meaning g.R.Shows.is_steady) (g.P.Parts.stripes_of c.args.parts.now) parts parts refl;
      waits = λ j. refl;
      rooms = spare_same (logs_of parts) (logs_of parts) (λ j. refl);
      below = omega arith;
      same = refl;
      device = still_same g.D.Device.serves g.D.Device.releases g.D.Device.writes c.args.device.now;
      ahead = λ j above. refl;
      made = λ ws are. below_none g.D.Device.wrote (kept_by g.R.Shows.identity g.R.Shows.shown) (g.P.Parts.stripes_of c.args.parts.now) ws (logs_of parts) c.args.device.now;
    }

pub reserve_share-requires-clause-open : goal.reserve_share-requires-clause-open
reserve_share-requires-clause-open g c = c.loop-stripe.invariant.is_open

pub reserve_share-requires-clause-there : goal.reserve_share-requires-clause-there
reserve_share-requires-clause-there g c = λ some.
    c.loop-stripe.invariant.became.there c.loop-stripe.stripe
    (c.requires.there c.loop-stripe.stripe (omega (arith, c.loop-stripe-test.true, c.stripes-stripe-end.ensures.count, c.stripes-stripe-end.ensures.most)) some)

pub reserve_share-requires-clause-light : goal.reserve_share-requires-clause-light
reserve_share-requires-clause-light g c = c.requires.light c.loop-stripe.stripe (omega (arith, c.loop-stripe-test.true, c.stripes-stripe-end.ensures.count, c.stripes-stripe-end.ensures.most))

pub loop-stripe-preserved : goal.loop-stripe-preserved
loop-stripe-preserved g c =
    let n : ℕ = g.P.Parts.stripes_of c.args.parts.now in
    let i : ℕ = c.loop-stripe.stripe in
    let inv = c.loop-stripe.invariant in
    let kept = kept_by g.R.Shows.identity g.R.Shows.shown in
    let start = g.P.Parts.part_of c.args.parts.now in
    let before = g.P.Parts.part_of c.loop-stripe.parts in
    let later = g.P.Parts.part_of c.reserve_share.new.parts in
    let amount : ℕ = slice_index c.args.shares.now i in
    let few : i < 64 = omega (arith, c.loop-stripe-test.true, c.stripes-stripe-end.ensures.count, c.stripes-stripe-end.ensures.most) in
    let e = c.reserve_share.ensures in
    record {
      is_open = e.held.open_still;
      keeps = g.met.P.Parts.keeps_both c.args.parts.now c.loop-stripe.parts c.reserve_share.new.parts inv.keeps e.held.kept;
      became = became_twice (shard_meaning g.R.Shows.is_steady) n start before later inv.became (rw (g.met.P.Parts.same_stripes c.args.parts.now c.loop-stripe.parts c.loop-stripe.invariant.keeps) at e.reserved.became);
      waits = waits_both start before later inv.waits e.reserved.stands.waits;
      rooms = spare_both (logs_of start) (logs_of before) (logs_of later) inv.rooms e.reserved.stands.rooms;
      below = omega (arith, c.loop-stripe-test.true, c.stripes-stripe-end.ensures.count);
      same = c.in_default.ensures.failed ∙ inv.same;
      device = still_both g.D.Device.serves g.D.Device.releases g.D.Device.writes c.args.device.now c.loop-stripe.device c.reserve_share.new.device inv.device e.reserved.stands.serves;
      ahead = λ j above. e.reserved.others j (λ at. absurd (omega (arith, at, above))) ∙ inv.ahead j (omega (arith, above));
      made = λ ws are.
          below_more g.D.Device.wrote kept n ws i amount c.args.purpose (logs_of start) (logs_of before) (logs_of later) c.args.device.now c.loop-stripe.device c.reserve_share.new.device
          (are.are i few) are.for_what inv.ahead e.reserved.others e.reserved.few
          (room_at g.D.Device.wrote kept n i amount ws (logs_of before) (logs_of later) c.loop-stripe.device c.reserve_share.new.device (are.are i few)
          (λ none. let same = e.shed.needless none in (λ j. ap (λ p. logs_of p j) same.0, same.1)) (λ some. e.shed.shed some c.in_default.ensures.failed))
          (λ some. (c.in_default.ensures.room some).left) (λ some. (c.in_default.ensures.room some).room) (inv.made ws are);
    }

pub returns-clause-reserved : goal.returns-clause-reserved
returns-clause-reserved g c = λ ws are.
    let some = (g.met.P.Parts.are_few c.args.parts.now c.requires.open).0 in
    let n : ℕ = g.P.Parts.stripes_of c.args.parts.now in
    let end : n ≤ c.loop-stripe.stripe = omega (arith, c.loop-stripe-test.false, c.stripes-stripe-end.ensures.count) in
    let last : c.loop-stripe.stripe ≡ n = omega (arith, c.loop-stripe.invariant.below, end) in
    let made = c.loop-stripe.invariant.made ws are in
    record {
      room = record {
        room = λ i has. made.roomy i (omega (arith, share_below n i ws some has, end)) has;
        made = subst (λ (k : ℕ). MakesRoom g.D.Device.wrote (kept_by g.R.Shows.identity g.R.Shows.shown) n k ws (logs_of (g.P.Parts.part_of c.args.parts.now)) c.args.device.now (logs_of (g.P.Parts.part_of c.loop-stripe.parts)) c.loop-stripe.device) last made.made;
        left = λ i has. made.left i (omega (arith, share_below n i ws some has, end)) has;
      };
      stopped = tt;
      few = made.few;
    }

pub returns-clause-stands : goal.returns-clause-stands
returns-clause-stands g c = record { serves = c.loop-stripe.invariant.device; waits = c.loop-stripe.invariant.waits; rooms = c.loop-stripe.invariant.rooms }

pub returns-in-Err-clause-became : goal.returns-in-Err-clause-became
returns-in-Err-clause-became g c =
    became_twice (shard_meaning g.R.Shows.is_steady) (g.P.Parts.stripes_of c.args.parts.now) (g.P.Parts.part_of c.args.parts.now) (g.P.Parts.part_of c.loop-stripe.parts) (g.P.Parts.part_of c.reserve_share.new.parts) c.loop-stripe.invariant.became
    (rw (g.met.P.Parts.same_stripes c.args.parts.now c.loop-stripe.parts c.loop-stripe.invariant.keeps) at c.reserve_share.ensures.reserved.became)

pub returns-in-Err-clause-reserved : goal.returns-in-Err-clause-reserved
returns-in-Err-clause-reserved g c = λ ws are.
    let n : ℕ = g.P.Parts.stripes_of c.args.parts.now in
    let i : ℕ = c.loop-stripe.stripe in
    let inv = c.loop-stripe.invariant in
    let kept = kept_by g.R.Shows.identity g.R.Shows.shown in
    let start = g.P.Parts.part_of c.args.parts.now in
    let before = g.P.Parts.part_of c.loop-stripe.parts in
    let later = g.P.Parts.part_of c.reserve_share.new.parts in
    let amount : ℕ = slice_index c.args.shares.now i in
    let few : i < 64 = omega (arith, c.loop-stripe-test.true, c.stripes-stripe-end.ensures.count, c.stripes-stripe-end.ensures.most) in
    let e = c.reserve_share.ensures in
    let was = inv.made ws are in
    let shed = few_more n i amount c.args.purpose ws (logs_of start) (logs_of before) (logs_of later) (are.are i few) are.for_what inv.ahead e.reserved.others was.few e.reserved.few in
    record {
      room = tt;
      stopped =
          met_stop g.D.Device.wrote kept n c.in-Err.stop g.D.Device.failures i amount c.args.purpose ws (logs_of start) (logs_of before) (logs_of later)
          c.args.device.now c.loop-stripe.device c.reserve_share.new.device (are.are i few) are.for_what are.light (omega (arith, c.loop-stripe-test.true, c.stripes-stripe-end.ensures.count))
          was.made (inv.ahead i (omega arith)) shed
          c.in-Err.ensures.stopped.lacks (c.in-Err.ensures.failed) e.shed.shed c.in-Err.ensures.stopped.why;
      few = shed;
    }

pub returns-in-Err-clause-stands : goal.returns-in-Err-clause-stands
returns-in-Err-clause-stands g c =
    let inv = c.loop-stripe.invariant in
    let e = c.reserve_share.ensures in
    record {
      serves = still_both g.D.Device.serves g.D.Device.releases g.D.Device.writes c.args.device.now c.loop-stripe.device c.reserve_share.new.device inv.device e.reserved.stands.serves;
      waits = waits_both (g.P.Parts.part_of c.args.parts.now) (g.P.Parts.part_of c.loop-stripe.parts) (g.P.Parts.part_of c.reserve_share.new.parts) inv.waits e.reserved.stands.waits;
      rooms = spare_both (logs_of (g.P.Parts.part_of c.args.parts.now)) (logs_of (g.P.Parts.part_of c.loop-stripe.parts)) (logs_of (g.P.Parts.part_of c.reserve_share.new.parts)) inv.rooms e.reserved.stands.rooms;
    }

pub returns-in-Err-clause-failed : goal.returns-in-Err-clause-failed
returns-in-Err-clause-failed g c = omega (arith, c.in-Err.ensures.failed, c.loop-stripe.invariant.same)

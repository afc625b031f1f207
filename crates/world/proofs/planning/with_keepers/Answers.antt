use Rattle.std.proofs.Common.{◌∙◌, ap, arith, length, refl}
use Rattle.world_log.specs.Places.{view}
use Rattle.world_log.specs.PlanLaws.{IsColdIn}
use Rattle.world.specs.Planning.{IsReadFor}
use Rattle.world.proofs.Keeping.{each_more, last_off_of, length_more, read_for}
use Rattle.world.proofs.planning.with_keepers.Goals as goal

pub loop-wanted-preserved : goal.loop-wanted-preserved
loop-wanted-preserved c =
    let inv = c.loop-wanted.invariant in
    let parts = last_off_of (IsColdIn c.args.log.now) c.loop-wanted.receipts c.pop.new.self (view c.in-Some.wanted.receipt) c.in-Some.ensures.some inv.cold in
    let keeper = c.in-Some-keeper_of.ensures.kept in
    let read = read_for c.args.log.now c.args.log.now c.args.client c.place.result c.in-Some-keeper_of.stripe (view c.in-Some.wanted.receipt) c.in-Some.wanted.receipt parts.1 refl refl c.place.ensures.place keeper in
    let count = length_more c.loop-wanted.due.items (c.in-Some-keeper_of.stripe, c.in-Some.wanted.receipt) in
    let fewer = ap length c.in-Some.ensures.some ∙ length_more c.pop.new.self (view c.in-Some.wanted.receipt) in
    record {
      cold = parts.0;
      kept = rw c.in-Ok.ensures.items (each_more (IsReadFor c.args.log.now c.args.client) c.loop-wanted.due.items (c.in-Some-keeper_of.stripe, c.in-Some.wanted.receipt) inv.kept read);
      count = rw c.in-Ok.ensures.items (omega (arith, count, fewer, inv.count));
    }

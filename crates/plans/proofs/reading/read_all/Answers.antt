use Rattle.std.proofs.Common.{◌≡◌, ◌∙◌, ◌+◌, [], ◌∷◌, length, length-append, refl, ap, arith}
use Rattle.hybrid.specs.HybridLog.{Kept}
use Rattle.shards.specs.Receipts.{kept_by}
use Rattle.plans.proofs.Few.{more_both, more_none, read_both, read_same}
use Rattle.plans.proofs.Unread.{each_still, read_more, read_none, served_split}
use Rattle.plans.proofs.reading.read_all.Goals as goal

pub loop-wanted-init : goal.loop-wanted-init
loop-wanted-init g c = record {
  same = refl;
  grows = more_none c.args.staged.now;
  once = omega arith;
  alone = read_same g.D.Device.serves g.D.Device.releases g.D.Device.writes c.args.device.now;
  still = λ r is. is;
  served = λ served. served;
  right = λ served right. right;
  read = λ later read. read;
}

pub loop-wanted-preserved : goal.loop-wanted-preserved
loop-wanted-preserved g c =
    let inv = c.loop-wanted.invariant in
    let k : Kept = kept_by g.R.Shows.identity g.R.Shows.shown c.in-Some.wanted.receipt in
    let one_less : length c.loop-wanted.receipts ≡ length c.pop.new.self + 1 = ap length c.in-Some.ensures.some ∙ length-append c.pop.new.self (k ∷ []) in
    record {
      same = c.in_ok-read_one.ensures.came.no_fault ∙ inv.same;
      grows = more_both c.args.staged.now c.loop-wanted.staged c.read_one.new.staged inv.grows c.read_one.ensures.grows;
      once = omega (arith, inv.once, c.read_one.ensures.once, one_less);
      alone = read_both g.D.Device.serves g.D.Device.releases g.D.Device.writes c.args.device.now c.loop-wanted.device c.read_one.new.device inv.alone c.read_one.ensures.device;
      still = λ r is. c.read_one.ensures.still_served r (inv.still r is);
      served = λ served. each_still g.D.Device.serves g.R.Shows.identity c.loop-wanted.device c.read_one.new.device c.pop.new.self c.read_one.ensures.still_served
          (served_split g.D.Device.serves g.R.Shows.identity c.loop-wanted.device c.loop-wanted.receipts c.pop.new.self k c.in-Some.ensures.some (inv.served served)).0;
      right = λ served right. c.read_one.ensures.right
          ((served_split g.D.Device.serves g.R.Shows.identity c.loop-wanted.device c.loop-wanted.receipts c.pop.new.self k c.in-Some.ensures.some (inv.served served)).1 c.in-Some.wanted.receipt refl)
          (inv.right served right);
      read = λ later read. inv.read later (read_more c.reading_ends.ensures c.loop-wanted.receipts c.pop.new.self k c.loop-wanted.staged c.read_one.new.staged later c.in-Some.ensures.some c.in_ok-read_one.ensures.staged read);
    }

pub returns-in_err-read_one-clause-right : goal.returns-in_err-read_one-clause-right
returns-in_err-read_one-clause-right g c = λ served right.
    let inv = c.loop-wanted.invariant in
    let k : Kept = kept_by g.R.Shows.identity g.R.Shows.shown c.in-Some.wanted.receipt in
    c.read_one.ensures.right
    ((served_split g.D.Device.serves g.R.Shows.identity c.loop-wanted.device c.loop-wanted.receipts c.pop.new.self k c.in-Some.ensures.some (inv.served served)).1 c.in-Some.wanted.receipt refl)
    (inv.right served right)

pub returns-clause-staged : goal.returns-clause-staged
returns-clause-staged g c = c.loop-wanted.invariant.read c.loop-wanted.staged (read_none c.loop-wanted.receipts c.loop-wanted.staged c.in_default.ensures.none.0)

pub returns-in_err-read_one-clause-grows : goal.returns-in_err-read_one-clause-grows
returns-in_err-read_one-clause-grows g c = more_both c.args.staged.now c.loop-wanted.staged c.read_one.new.staged c.loop-wanted.invariant.grows c.read_one.ensures.grows

pub returns-in_err-read_one-clause-device : goal.returns-in_err-read_one-clause-device
returns-in_err-read_one-clause-device g c = read_both g.D.Device.serves g.D.Device.releases g.D.Device.writes c.args.device.now c.loop-wanted.device c.read_one.new.device c.loop-wanted.invariant.alone c.read_one.ensures.device

pub returns-clause-once : goal.returns-clause-once
returns-clause-once g c = omega (arith, c.loop-wanted.invariant.once)

pub returns-in_err-read_one-clause-once : goal.returns-in_err-read_one-clause-once
returns-in_err-read_one-clause-once g c =
    let k : Kept = kept_by g.R.Shows.identity g.R.Shows.shown c.in-Some.wanted.receipt in
    let one_less : length c.loop-wanted.receipts ≡ length c.pop.new.self + 1 = ap length c.in-Some.ensures.some ∙ length-append c.pop.new.self (k ∷ []) in
    omega (arith, c.loop-wanted.invariant.once, c.read_one.ensures.once, one_less)

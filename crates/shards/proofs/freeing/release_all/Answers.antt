use Rattle.std.proofs.Common.{◌∙◌, ◌+◌, refl, arith}
use Rattle.shards.proofs.Freed.{released_end, released_fewer, released_more, released_none}
use Rattle.shards.proofs.freeing.release_all.Goals as goal

pub all-init : goal.all-init
all-init g c = record {
  released = record { count = 0; released = released_none c.args.log.now; any = λ e. absurd (cc e); none = λ e. refl; given = omega arith };
  same = refl;
  writes = refl;
}

pub all-preserved : goal.all-preserved
all-preserved g c =
    let r = c.all.invariant.released in
    record {
      released = record {
        count = r.count + 1;
        released = released_more g.D.Device.serves g.R.Shows.identity c.args.log.now c.all.log c.release.new.self r.count c.all.device c.release.new.device r.released c.is_counted.ensures c.if-not-release.ensures.released;
        any = λ e. omega arith;
        none = λ e. absurd (cc e);
        given = omega (arith, c.if-not-release.ensures.counted, r.given);
      };
      same = c.release.ensures.no_fault ∙ c.all.invariant.same;
      writes = c.release.ensures.no_write ∙ c.all.invariant.writes;
    }

pub all-smaller : goal.all-smaller
all-smaller g c = released_fewer g.D.Device.serves g.R.Shows.identity c.all.log c.release.new.self c.all.device c.release.new.device c.if-not-release.ensures.released

pub returns-then-not-release-clause-released : goal.returns-then-not-release-clause-released
returns-then-not-release-clause-released g c =
    let none = c.if-not-release.ensures.none in
    released_end g.D.Device.releases c.args.log.now c.all.log c.release.new.self c.args.device.now c.all.device c.release.new.device c.all.any none.1 none.2 c.all.invariant.released

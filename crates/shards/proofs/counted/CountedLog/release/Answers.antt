use Rattle.std.proofs.Common.{ap}
use Rattle.std.specs.Prelude.{map}
use Rattle.hybrid.specs.HybridLog.{HybridLog}
use Rattle.shards.specs.Receipts.{drained_by, kept_by, refused_of, retired_by}
use Rattle.shards.proofs.Counts.{released_by}
use Rattle.shards.proofs.counted.CountedLog.release.Goals as goal

pub returns-clause-released : goal.returns-clause-released
returns-clause-released g c =
    let view = drained_by g.R.Shows.identity g.R.Shows.shown in
    released_by _ _ _ _ _ _ _ (view c.in-Some.receipt) (map view c.pop_front.new.self.items) c.self.view_is (ap (map view) c.in-Some.ensures.items)
    (ap (λ (p : HybridLog). record {
      log = p;
      in_flight = c.self.inside.in_flight;
      unlinked = map (kept_by g.R.Shows.identity g.R.Shows.shown) c.self.inside.unlinked.items;
      retired = map (retired_by g.R.Shows.identity g.R.Shows.shown) c.self.inside.retired.items;
      drained = map view c.pop_front.new.self.items;
      refused = refused_of g.R.Shows.identity c.self.inside.retired.items;
      worn = c.self.inside.worn;
    }) c.free_place.ensures) c.release.ensures.still_served

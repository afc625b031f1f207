use Rattle.std.proofs.Common.{◌∙◌, ◌∷◌, [], List, ap}
use Rattle.std.proofs.lemmas.List.{map-append}
use Rattle.std.specs.Prelude.{map}
use Rattle.hybrid.specs.HybridLog.{Kept}
use Rattle.shards.specs.Receipts.{drained_by, kept_by, refused_of, retired_by}
use Rattle.shards.proofs.Counts.{unlinked_by}
use Rattle.shards.proofs.counted.CountedLog.clean_oldest.Goals as goal

pub returns-in-Unlinked-clause-unlinked : goal.returns-in-Unlinked-clause-unlinked
returns-in-Unlinked-clause-unlinked g c =
    let view = kept_by g.R.Shows.identity g.R.Shows.shown in
    let before = c.self.inside.unlinked.items in
    unlinked_by _ _ _ c.args.room.weight (view c.in-Unlinked.receipt) c.self.view_is c.in-Unlinked.ensures.unlinked.1 c.in-Unlinked.ensures.unlinked.0 c.in-Unlinked.ensures.unlinked.2
    (ap (λ (l : List Kept). record {
      log = c.clean_oldest.new.self;
      in_flight = c.self.inside.in_flight;
      unlinked = l;
      retired = map (retired_by g.R.Shows.identity g.R.Shows.shown) c.self.inside.retired.items;
      drained = map (drained_by g.R.Shows.identity g.R.Shows.shown) c.self.inside.drained.items;
      refused = refused_of g.R.Shows.identity c.self.inside.retired.items;
      worn = c.self.inside.worn;
    }) (ap (map view) c.push_back_reserved.ensures.items ∙ map-append view before (c.in-Unlinked.receipt ∷ [])))

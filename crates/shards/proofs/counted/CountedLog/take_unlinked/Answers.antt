use Rattle.std.proofs.Common.{refl, ap}
use Rattle.std.specs.Prelude.{map}
use Rattle.shards.specs.Receipts.{kept_by}
use Rattle.shards.proofs.Counts.{taken_by}
use Rattle.shards.proofs.counted.CountedLog.take_unlinked.Goals as goal

pub returns-clause-taken : goal.returns-clause-taken
returns-clause-taken g c =
    let view = kept_by g.R.Shows.identity g.R.Shows.shown in
    taken_by _ _ _ _ (map view c.pop_front.new.self.items) c.self.view_is (ap (map view) c.in_ok-receipt.ensures.items) refl

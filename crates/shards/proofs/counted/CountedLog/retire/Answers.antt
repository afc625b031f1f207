use Rattle.std.proofs.Common.{◌≡◌, ◌∙◌, ◌∷◌, ◌++◌, [], ℕ, List, ap}
use Rattle.std.proofs.lemmas.List.{map-append}
use Rattle.std.specs.Prelude.{map}
use Rattle.epoch.specs.Seats.{refusals}
use Rattle.gates.specs.Pages.{Place}
use Rattle.hybrid.specs.HybridLog.{Kept}
use Rattle.shards.specs.Receipts.{drained_by, kept_by, refused_of, retired_by}
use Rattle.shards.proofs.Counts.{retired_by_step, both_lists}
use Rattle.shards.proofs.counted.CountedLog.retire.Goals as goal

pub returns-in-Ok-clause-retired : goal.returns-in-Ok-clause-retired
returns-in-Ok-clause-retired g c =
    let view = kept_by g.R.Shows.identity g.R.Shows.shown in
    let one = retired_by g.R.Shows.identity g.R.Shows.shown in
    let before = c.self.inside.retired.items in
    let others : List Kept = map view c.pop_front.new.self.items in
    let lists : map one c.push_back_reserved.new.self.items ≡ map one before ++ view c.in-Some.receipt ∷ [] =
    ap (map one) c.push_back_reserved.ensures.items ∙ map-append one before (c.in-Ok.retired ∷ [])
    ∙ ap (λ (k : Kept). map one before ++ k ∷ []) (ap view c.in-Ok.ensures.value) in
    let counts : refused_of g.R.Shows.identity c.push_back_reserved.new.self.items ≡ refused_of g.R.Shows.identity before ++ (g.R.Shows.identity c.in-Some.receipt, 0) ∷ [] =
    ap (refused_of g.R.Shows.identity) c.push_back_reserved.ensures.items ∙ map-append _ before (c.in-Ok.retired ∷ [])
    ∙ ap (λ (p : Place). refused_of g.R.Shows.identity before ++ (p, refusals c.in-Ok.retired) ∷ []) (ap g.R.Shows.identity c.in-Ok.ensures.value)
    ∙ ap (λ (n : ℕ). refused_of g.R.Shows.identity before ++ (g.R.Shows.identity c.in-Some.receipt, n) ∷ []) c.in-Ok.ensures.fresh in
    retired_by_step _ _ _ (view c.in-Some.receipt) others c.self.view_is (ap (map view) c.in-Some.ensures.items)
    (both_lists c.self.inside.stripe c.self.inside.in_flight c.self.inside.worn others (map (drained_by g.R.Shows.identity g.R.Shows.shown) c.self.inside.drained.items) _ _ _ _ lists counts)

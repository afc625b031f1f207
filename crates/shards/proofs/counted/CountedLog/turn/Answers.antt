use Rattle.std.proofs.Common.{◌∙◌, ◌∷◌, ◌++◌, [], List, ap}
use Rattle.std.proofs.lemmas.List.{map-append}
use Rattle.std.specs.Prelude.{map}
use Rattle.epoch.specs.Seats.{refusals}
use Rattle.gates.specs.Pages.{Place}
use Rattle.hybrid.specs.HybridLog.{Kept}
use Rattle.shards.specs.Receipts.{drained_by, kept_by, refused_of, retired_by}
use Rattle.shards.proofs.Counts.{both_lists, counted_with, turned_drained, turned_refused}
use Rattle.shards.proofs.counted.CountedLog.turn.Goals as goal

pub returns-in-Ok : goal.returns-in-Ok
returns-in-Ok g c =
    let view = kept_by g.R.Shows.identity g.R.Shows.shown in
    let one = retired_by g.R.Shows.identity g.R.Shows.shown in
    let done = drained_by g.R.Shows.identity g.R.Shows.shown in
    let before = c.self.inside.drained.items in
    let others : List Kept = map one c.pop_front.new.self.items in
    let unlinked : List Kept = map view c.self.inside.unlinked.items in
    turned_drained _ _ _ (one c.in-Some.retired) others (refusals c.in-Some.retired) (refused_of g.R.Shows.identity c.pop_front.new.self.items) c.self.view_is (ap (map one) c.in-Some.ensures.items) (ap (refused_of g.R.Shows.identity) c.in-Some.ensures.items)
    (ap (λ (l : List Kept). counted_with c.self.inside.stripe c.self.inside.in_flight c.self.inside.worn unlinked l others (refused_of g.R.Shows.identity c.pop_front.new.self.items))
    (ap (map done) c.push_back_reserved.ensures.items ∙ map-append done before (c.in-Ok.drained ∷ []) ∙ ap (λ (k : Kept). map done before ++ k ∷ []) (ap view c.in-Ok.ensures.value)))

pub returns-in-Err : goal.returns-in-Err
returns-in-Err g c =
    let view = kept_by g.R.Shows.identity g.R.Shows.shown in
    let one = retired_by g.R.Shows.identity g.R.Shows.shown in
    let done = drained_by g.R.Shows.identity g.R.Shows.shown in
    let rest = c.pop_front.new.self.items in
    turned_refused _ _ _ (one c.in-Some.retired) (map one rest) (refusals c.in-Some.retired) (refusals c.in-Err.retired) (refused_of g.R.Shows.identity rest) c.self.view_is (ap (map one) c.in-Some.ensures.items) (ap (refused_of g.R.Shows.identity) c.in-Some.ensures.items)
    c.in-Err.ensures.refused
    (both_lists c.self.inside.stripe c.self.inside.in_flight c.self.inside.worn (map view c.self.inside.unlinked.items) (map done c.self.inside.drained.items) _ _ _ _
    (ap (map one) c.push_back_reserved-in-Err.ensures.items ∙ map-append one rest (c.in-Err.retired ∷ []) ∙ ap (λ (k : Kept). map one rest ++ k ∷ []) (ap view c.in-Err.ensures.back))
    (ap (refused_of g.R.Shows.identity) c.push_back_reserved-in-Err.ensures.items ∙ map-append _ rest (c.in-Err.retired ∷ [])
    ∙ ap (λ (p : Place). refused_of g.R.Shows.identity rest ++ (p, refusals c.in-Err.retired) ∷ []) (ap g.R.Shows.identity c.in-Err.ensures.back)))

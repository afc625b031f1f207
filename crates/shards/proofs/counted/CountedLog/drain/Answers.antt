use Rattle.std.proofs.Common.{◌∙◌, ◌∷◌, ◌++◌, [], List, sym, ap}
use Rattle.std.proofs.lemmas.List.{map-append}
use Rattle.std.specs.Prelude.{map}
use Rattle.epoch.specs.Seats.{refusals, retired_value}
use Rattle.gates.specs.Pages.{Place}
use Rattle.hybrid.specs.HybridLog.{Kept}
use Rattle.shards.specs.Counted.{Counted}
use Rattle.shards.specs.Receipts.{drained_by, kept_by, refused_of, retired_by}
use Rattle.shards.proofs.Counts.{both_lists, drained_by_step, more_in_all, was_refused}
use Rattle.shards.proofs.counted.CountedLog.drain.Goals as goal

pub returns-in-Ok : goal.returns-in-Ok
returns-in-Ok g c =
    let view = kept_by g.R.Shows.identity g.R.Shows.shown in
    let one = retired_by g.R.Shows.identity g.R.Shows.shown in
    let done = drained_by g.R.Shows.identity g.R.Shows.shown in
    let before = c.self.inside.drained.items in
    let others : List Kept = map one c.pop_front.new.self.items in
    record {
      drained = drained_by_step _ _ _ (one c.in-Some.retired) others (refusals c.in-Some.retired) (refused_of g.R.Shows.identity c.pop_front.new.self.items) c.self.view_is (ap (map one) c.in-Some.ensures.items) (ap (refused_of g.R.Shows.identity) c.in-Some.ensures.items)
          (ap (λ (l : List Kept). record {
            log = c.self.inside.stripe;
            in_flight = c.self.inside.in_flight;
            unlinked = map view c.self.inside.unlinked.items;
            retired = others;
            drained = l;
            refused = refused_of g.R.Shows.identity c.pop_front.new.self.items;
            worn = c.self.inside.worn;
          })
          (ap (map done) c.push_back_reserved.ensures.items ∙ map-append done before (c.in-Ok.drained ∷ []) ∙ ap (λ (k : Kept). map done before ++ k ∷ []) (ap view c.in-Ok.ensures.value)));
      more = tt;
    }

pub returns-in-Err : goal.returns-in-Err
returns-in-Err g c =
    let view = kept_by g.R.Shows.identity g.R.Shows.shown in
    let one = retired_by g.R.Shows.identity g.R.Shows.shown in
    let done = drained_by g.R.Shows.identity g.R.Shows.shown in
    record {
      drained = was_refused _ _ _ (g.R.Shows.identity (retired_value c.in-Some.retired)) (refusals c.in-Some.retired) (refusals c.in-Err.retired) (refused_of g.R.Shows.identity c.pop_front.new.self.items) c.self.view_is (ap (refused_of g.R.Shows.identity) c.in-Some.ensures.items) c.in-Err.ensures.refused
          (both_lists c.self.inside.stripe c.self.inside.in_flight c.self.inside.worn (map view c.self.inside.unlinked.items) (map done c.self.inside.drained.items) _ _ _ _
          (ap (map one) c.push_front_reserved.ensures.items ∙ ap (λ (k : Kept). k ∷ map one c.pop_front.new.self.items) (ap view c.in-Err.ensures.back) ∙ sym (ap (map one) c.in-Some.ensures.items))
          (ap (refused_of g.R.Shows.identity) c.push_front_reserved.ensures.items
          ∙ ap (λ (p : Place). (p, refusals c.in-Err.retired) ∷ refused_of g.R.Shows.identity c.pop_front.new.self.items) (ap g.R.Shows.identity c.in-Err.ensures.back)));
      more = more_in_all _ _ (g.R.Shows.identity (retired_value c.in-Some.retired)) (g.R.Shows.identity (retired_value c.in-Err.retired)) (refusals c.in-Some.retired) (refusals c.in-Err.retired) (refused_of g.R.Shows.identity c.pop_front.new.self.items)
          (sym (ap (λ (x : Counted). x.refused) c.self.view_is) ∙ ap (refused_of g.R.Shows.identity) c.in-Some.ensures.items) (ap (refused_of g.R.Shows.identity) c.push_front_reserved.ensures.items) c.in-Err.ensures.refused;
    }
